-- An empty journal.
use Rattle.std.specs.Prelude.{◌≡◌, None}
use Rattle.frame_log.specs.LogStates.{IsEmpty, file_of}
use Rattle.journal.specs.JournalStates.{AreUp, current_log, current_of, root_log}
use Rattle.journal.specs.declared.journal.Journal.{Journal}
use Rattle.log_pair.specs.PairStates.{Both}

-- no log has frames, and nothing is broken off; journal 0 takes the first entry, and root log 2 the first root
pub record IsEmptyJournal (journal : Journal) : Type 0 where
  pub up : AreUp journal
  pub entries : Both IsEmpty journal.entries
  pub roots : Both IsEmpty journal.roots
  pub current : current_of journal ≡ 0
  pub root : file_of (root_log journal) ≡ 2
  pub frozen : journal.frozen ≡ None
  pub whole : journal.broken_off ≡ None
