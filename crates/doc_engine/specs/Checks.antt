-- Which commits may be entered, and why others are refused before a device call.
use Rattle.std.specs.Prelude.{ℕ, ◌≡◌, ◌+◌, ◌<◌, ◌^◌, ◌||◌, nat_le, List, [], length, map, Option, Some, None, IsTrue, ⊤}
use Rattle.std.specs.List.{find}
use Rattle.std.specs.Option.{option_map}
use Rattle.doc_model.specs.Operations.{uri_of}
use Rattle.doc_model.specs.Tree.{is_distinct}
use Rattle.doc_model.specs.declared.entry.Entry.TheVariants.{Commit}
use Rattle.doc_model.specs.declared.op.Op.{Op}
use Rattle.doc_meaning.specs.Replies.{differs, first_twice, last_timestamp}
use Rattle.doc_engine.specs.EngineState.{ReadState}
use Rattle.doc_engine.specs.declared.refusal.CommitRefusal.{CommitRefusal}
use Rattle.doc_engine.specs.declared.refusal.CommitRefusal.TheVariants as refusal
use Rattle.frame_log.specs.LogStates.{end_of}
use Rattle.journal.specs.JournalStates.{current_log}
use Rattle.journal.specs.declared.journal.Journal.{Journal}
use Rattle.journal_bodies.specs.Entries.{SpellsEntry, entry}
use Rattle.live_documents.specs.Conflicts.{conflict_at}

-- the engine isn't down, no URI is named twice, and each operation expects the version that is live
pub record MayEnter (seen : ReadState) (down : Option ℕ) (ops : List Op) : Type 0 where
  pub up : down ≡ None
  pub once : first_twice [] (map uri_of ops) ≡ None
  pub distinct : IsTrue (is_distinct (map uri_of ops))
  pub agrees : find (differs seen.documents) ops ≡ None

-- why operations may not be entered
abbrev pub MayNotEnter : ReadState → Option ℕ → List Op → CommitRefusal → Type 0
MayNotEnter seen down ops (refusal.Down faults) = down ≡ Some faults
MayNotEnter seen down ops (refusal.Twice uri) = (down ≡ None) × (first_twice [] (map uri_of ops) ≡ Some uri)
MayNotEnter seen down ops (refusal.Conflict uri found front) = (down ≡ None) × (first_twice [] (map uri_of ops) ≡ None)
    × (option_map (conflict_at seen.documents) (find (differs seen.documents) ops)
    ≡ Some (record { uri = uri; found = found }))
    × (front ≡ seen.front)
MayNotEnter seen down ops (refusal.Spent front end) = ⊥
MayNotEnter seen down ops refusal.Fault = ⊥
MayNotEnter seen down ops refusal.Memory = down ≡ None

-- where the current journal ends once it has this commit under this number
abbrev pub end_with : Journal → ℕ → List Op → ℕ
end_with journal number ops = end_of (current_log journal) + 9 + length (entry number (Commit ops))

-- it grows by less than 2^31 bytes then
abbrev pub IsShort : Journal → ℕ → List Op → Type 0
IsShort journal number ops = end_with journal number ops < end_of (current_log journal) + 2 ^ 31

-- a timestamp is left, and the journal has room for this commit, which the frame spells
pub record HasRoom (front : ℕ) (journal : Journal) (ops : List Op) (frame : List ℕ) : Type 0 where
  pub spelled : SpellsEntry frame (front + 1) (Commit ops)
  pub early : front < last_timestamp
  pub room : end_with journal (front + 1) ops < 2 ^ 62
  pub short : IsShort journal (front + 1) ops

-- why there is no frame
abbrev pub HasNoRoom : ℕ → Journal → List Op → CommitRefusal → Type 0
HasNoRoom at journal ops (refusal.Down faults) = ⊥
HasNoRoom at journal ops (refusal.Twice uri) = ⊥
HasNoRoom at journal ops (refusal.Conflict uri found front) = ⊥
HasNoRoom at journal ops (refusal.Spent front end) = (front ≡ at) × (end ≡ end_with journal (at + 1) ops)
    × IsTrue (nat_le (2 ^ 62) end || nat_le last_timestamp front) × IsShort journal (at + 1) ops
HasNoRoom at journal ops refusal.Fault = ⊥
HasNoRoom at journal ops refusal.Memory = ⊤
