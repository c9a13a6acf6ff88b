use Rattle.std.proofs.Common.{refl, sym, ◌∙◌}
use Rattle.json_text.proofs.Fronts.{ok_same}
use Rattle.json_text.proofs.CutPlaces.{fault_told}
use Rattle.json_text.proofs.FoundValues.{found}
use Rattle.json_text.proofs.KeptRules.{trees_keep_rules}
use Rattle.json_text.proofs.OnlyValues.{only}
use Rattle.json_text.proofs.reading.read.Goals as goal

pub returns-in-Ok-clause-found : goal.returns-in-Ok-clause-found
returns-in-Ok-clause-found c = let e = c.in-Ok.node-is in found c.args.bytes.now _ c.in-Ok.ensures

pub returns-in-Ok-clause-only : goal.returns-in-Ok-clause-only
returns-in-Ok-clause-only c = let e = c.in-Ok.node-is in
    λ v is. ok_same _ v (sym c.in-Ok.ensures ∙ only c.args.bytes.now v is)

pub returns-in-Err-Fault-clause-only : goal.returns-in-Err-Fault-clause-only
returns-in-Err-Fault-clause-only c =
    let failed = rw c.in-Err-Fault.field-0-is at c.in-Err-Fault.ensures in
    λ v is. let never = sym failed ∙ only c.args.bytes.now v is in absurd cc

pub returns-in-Ok-clause-rules : goal.returns-in-Ok-clause-rules
returns-in-Ok-clause-rules c =
    let e = c.in-Ok.node-is in
    trees_keep_rules c.args.bytes.now _ (found c.args.bytes.now _ c.in-Ok.ensures)

pub returns-in-Err-Fault-clause-refused : goal.returns-in-Err-Fault-clause-refused
returns-in-Err-Fault-clause-refused c =
    let failed = rw c.in-Err-Fault.field-0-is at c.in-Err-Fault.ensures in
    λ ne. record {
      says = rw c.placed.ensures (fault_told c.args.bytes.now c.in-Err-Fault.fault failed);
      fault = c.in-Err-Fault.fault;
      read = failed;
      at = c.placed.ensures;
    }

pub returns-in-Err-Memory-clause-refused : goal.returns-in-Err-Memory-clause-refused
returns-in-Err-Memory-clause-refused c = λ ne. absurd (ne refl)
