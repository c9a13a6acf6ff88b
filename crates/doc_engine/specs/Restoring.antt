-- What is held in memory of a history whose entries were read.
use Rattle.std.specs.Prelude.{ℕ, ◌≡◌, ◌+◌, List, length}
use Rattle.std.specs.FinMap.{empty}
use Rattle.doc_model.specs.declared.entry.Entry.{Entry}
use Rattle.doc_engine.specs.declared.restoring.Restored.{Restored}
use Rattle.doc_meaning.specs.History.{after_entries, merge_after}

-- the front, the merge timestamp and the documents after these entries, which follow a checkpoint without documents
pub record Restores (checkpoint low : ℕ) (entries : List Entry) (restored : Restored) : Type 0 where
  pub front : restored.front ≡ checkpoint + length entries
  pub merge : restored.merge ≡ merge_after low entries
  pub live : restored.live ≡ after_entries checkpoint entries empty
