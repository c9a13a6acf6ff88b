-- The logs of a directory as they were read.
use Rattle.std.specs.Prelude.{ℕ, ◌≡◌, ◌==◌, Bool, ◌&&◌, not, true, false, IsSome, None, option_map, if◌then◌else◌}
use Rattle.disk_model.specs.Files.{Files}
use Rattle.disk_model.specs.Logs.{Image}
use Rattle.disk_model.specs.declared.disk.Disk
use Rattle.disk_model.specs.declared.file_name.FileName.TheVariants.{Log}
use Rattle.doc_meaning.specs.History.{History}
use Rattle.directory_meaning.specs.Bodies.{Bodies, HasBodies}
use Rattle.directory_meaning.specs.Laws.{no_bodies}
use Rattle.directory_meaning.specs.Shown.{TellsAt, without_first}
use Rattle.directory_meaning.specs.declared.logs.TheConstants.{DIRECTORY_LOGS}
use Rattle.directory_reading.specs.declared.replay.Replay.{Replay}
use Rattle.frame_log.specs.LogStates.{file_of}
use Rattle.frame_log.specs.declared.log.Log as frame_log
use Rattle.journal.specs.JournalStates.{AreUp, LogsRepresent, current_of}
use Rattle.journal.specs.Opening.{GoesOnWith, Scans}
use Rattle.journal.specs.Reading.{AreSettled}
use Rattle.journal.specs.declared.opening.ReadAll.{ReadAll}
use Rattle.journal.specs.declared.refusal.JournalRefusal.{JournalRefusal}
use Rattle.journal.specs.declared.refusal.JournalRefusal.TheVariants.{Damaged}
use Rattle.journal_bodies.specs.declared.root.Root.{Root}
use Rattle.log_pair.specs.PairStates.{IsPairOf, other_of}
use Rattle.log_pair.specs.declared.current.Current.TheVariants.{First, Second}
use Rattle.log_pair.specs.declared.pair.LogPair.{LogPair}

-- this log breaks a rule at this place
abbrev pub IsDamagedAt : ℕ → JournalRefusal → ℕ → Type 0
IsDamagedAt file why place = why ≡ Damaged (Log file) place

-- the journals: the one that takes the next entry is current; the second one, where the first one is to be reset before
abbrev pub IsEntryPair : frame_log.Log → frame_log.Log → ℕ → Bool → LogPair → Type 0
IsEntryPair first second current resets pair =
    IsPairOf first second (if (current == 0) && not resets then First else Second) pair

-- the root logs: the one with the newest root is current
abbrev pub IsRootPair : frame_log.Log → frame_log.Log → ℕ → LogPair → Type 0
IsRootPair first second newest pair = IsPairOf first second (if newest == 2 then First else Second) pair

-- each part of what was read is at its place
pub record Assembles (entries roots : LogPair) (root : Root) (replay : Replay) (found : ReadAll) : Type 0 where
  pub entry_logs : found.journal.entries ≡ entries
  pub root_logs : found.journal.roots ≡ roots
  pub frozen : found.journal.frozen ≡ option_map (λ f. f.entry) replay.frozen
  pub whole : found.journal.broken_off ≡ None
  pub newest : found.scanned.root ≡ root
  pub told : found.scanned.entries.items ≡ replay.entries.items
  pub last : found.scanned.frozen ≡ replay.frozen
  pub resets : found.resets_first ≡ replay.resets_first

-- the journal that is to take the next entry: the first one, where it is to be reset, else the current one
abbrev pub next_of : ReadAll → ℕ
next_of found = if found.resets_first then file_of (other_of found.journal.entries) else current_of found.journal

-- what was read from this image, and which frames the logs have if they were synced before
pub record ReadsAll {D : Type 0} (of_disk : Disk.Ghosts D) (image : Image) (old new : D)
    (found : ReadAll) : Type 0 where
  pub read : Bodies
  pub has : HasBodies read image
  pub up : AreUp found.journal
  pub goes_on : GoesOnWith read found.scanned found.journal (next_of found) found.resets_first
  pub represents : IsSome (of_disk.seen old)
      → AreSettled DIRECTORY_LOGS (of_disk.seen old) (of_disk.may_leave old)
      → LogsRepresent of_disk found.journal new read no_bodies
  -- whatever files are kept, since the root names none
  pub history : History
  pub merge : ℕ
  pub scans : (files : Files) → Scans files read history merge found.scanned
  pub tells : (files : Files) →
      TellsAt files (if found.resets_first then without_first read else read) (next_of found) history merge
