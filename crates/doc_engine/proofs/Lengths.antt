-- By how much a journal grows.
use Rattle.std.proofs.Common.{◌≡◌, ◌+◌, ℕ, List, length, ap, arith}
use Rattle.doc_model.specs.declared.entry.Entry.TheVariants.{Commit}
use Rattle.doc_model.specs.declared.op.Op.{Op}
use Rattle.doc_engine.specs.Checks.{IsShort, end_with}
use Rattle.frame_log.specs.LogStates.{end_of}
use Rattle.journal.specs.JournalStates.{current_log}
use Rattle.journal.specs.declared.journal.Journal.{Journal}
use Rattle.journal_bodies.specs.Entries.{HasValues, entry}
use Rattle.directory_meaning.proofs.LengthLemmas.{commit_is_short, commit_length}

pub is_short : (journal : Journal) (number : ℕ) (ops : List Op) → HasValues (Commit ops)
    → IsShort journal number ops
is_short journal number ops values = omega (arith, commit_is_short number ops values)

-- where a journal ends with a frame of these bytes, whatever number they are under
pub ends_with : (journal : Journal) (number other : ℕ) (ops : List Op) (frame : List ℕ) (end : ℕ)
    → end ≡ end_of (current_log journal) + 9 + length frame → frame ≡ entry number (Commit ops)
    → end ≡ end_with journal other ops
ends_with journal number other ops frame end is spelled =
    omega (arith, is, ap length spelled, commit_length number ops, commit_length other ops)
