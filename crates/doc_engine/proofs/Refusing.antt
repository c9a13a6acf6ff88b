-- What is refused before a device call is no fault.
use Rattle.std.proofs.Common.{ℕ, List, Option}
use Rattle.doc_model.specs.declared.op.Op.{Op}
use Rattle.doc_engine.proofs.Entering.{IsNoFault}
use Rattle.doc_engine.specs.Checks.{HasNoRoom, MayNotEnter}
use Rattle.doc_engine.specs.EngineState.{ReadState}
use Rattle.doc_engine.specs.declared.refusal.CommitRefusal.{CommitRefusal}
use Rattle.doc_engine.specs.declared.refusal.CommitRefusal.TheVariants as refusal
use Rattle.journal.specs.declared.journal.Journal.{Journal}

pub check_is_no_fault : (seen : ReadState) (down : Option ℕ) (ops : List Op) (why : CommitRefusal)
    → MayNotEnter seen down ops why → IsNoFault why
check_is_no_fault seen down ops (refusal.Down faults) told = tt
check_is_no_fault seen down ops (refusal.Twice uri) told = tt
check_is_no_fault seen down ops (refusal.Conflict uri found front) told = tt
check_is_no_fault seen down ops (refusal.Spent front end) told = tt
check_is_no_fault seen down ops refusal.Fault told = told
check_is_no_fault seen down ops refusal.Memory told = tt

pub room_is_no_fault : (at : ℕ) (journal : Journal) (ops : List Op) (why : CommitRefusal) → HasNoRoom at journal ops why
    → IsNoFault why
room_is_no_fault at journal ops (refusal.Down faults) told = tt
room_is_no_fault at journal ops (refusal.Twice uri) told = tt
room_is_no_fault at journal ops (refusal.Conflict uri found front) told = tt
room_is_no_fault at journal ops (refusal.Spent front end) told = tt
room_is_no_fault at journal ops refusal.Fault told = told
room_is_no_fault at journal ops refusal.Memory told = tt
