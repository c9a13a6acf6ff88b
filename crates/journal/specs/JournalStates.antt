-- The state of a journal on a disk.
use Rattle.std.specs.Prelude.{ℕ, ◌≡◌, ◌⊎◌, ◌+◌, nat_lt, nat_le, not, ◌&&◌, Bool, Option, Some, None, IfSome, if◌then◌else◌}
use Rattle.std.specs.Option.{is_none}
use Rattle.disk_model.specs.Logs.{Image, CrashImages}
use Rattle.disk_model.specs.declared.disk.Disk
use Rattle.frame_log.specs.LogStates.{IsEmpty, end_of, file_of}
use Rattle.frame_log.specs.declared.log.Log.{Log}
use Rattle.directory_meaning.specs.Bodies.{Bodies}
use Rattle.journal.specs.declared.journal.Journal.{Journal}
use Rattle.log_pair.specs.PairStates as pair
use Rattle.log_pair.specs.PairStates.{PairRepresents, other_of}

-- the journal that takes the next entry, and its number: 0 or 1
abbrev pub current_log : Journal → Log
current_log journal = pair.current_of journal.entries

abbrev pub current_of : Journal → ℕ
current_of journal = file_of (current_log journal)

-- the root log that a root was last appended to, and its number: 2 or 3
abbrev pub root_log : Journal → Log
root_log journal = pair.current_of journal.roots

-- whether a log has frames
abbrev pub has_frames : Log → Bool
has_frames log = nat_lt 0 (end_of log)

-- the root log that takes the next root: the current one if it is empty, else the other one
abbrev pub next_root_log : Journal → Log
next_root_log journal = if has_frames (root_log journal) then other_of journal.roots else root_log journal

-- the other one: the current one if it has frames, else the other one
abbrev pub kept_root_log : Journal → Log
kept_root_log journal = if has_frames (root_log journal) then root_log journal else other_of journal.roots

-- one of the root logs is empty
abbrev pub HasEmptyRootLog : Journal → Type 0
HasEmptyRootLog journal = IsEmpty (root_log journal) ⊎ IsEmpty (other_of journal.roots)

-- how many logs are to be reset: a root log if both have frames, and the journal that isn't current if it has frames
-- and isn't frozen
abbrev pub owed_of : Journal → ℕ
owed_of journal = (if has_frames (root_log journal) && has_frames (other_of journal.roots) then 1 else 0)
    + (if is_none journal.frozen && has_frames (other_of journal.entries) then 1 else 0)

-- what is frozen once a root has this checkpoint: nothing, where it goes up to there
abbrev pub frozen_after : ℕ → Option ℕ → Option ℕ
frozen_after checkpoint None = None
frozen_after checkpoint (Some entry) = if nat_le entry checkpoint then None else Some entry

-- no log is down
abbrev pub AreUp : Journal → Type 0
AreUp journal = pair.AreUp journal.entries × pair.AreUp journal.roots

-- the last gate of each log is within its file, where that is told
abbrev pub AreWithin : Journal → Option Image → Type 0
AreWithin journal seen = pair.AreWithin journal.entries seen × pair.AreWithin journal.roots seen

-- nothing is behind the last gate of each log, nor after a crash, where that is told
abbrev pub AreTrimmed : Journal → Option Image → CrashImages → Type 0
AreTrimmed journal seen may_leave = pair.AreTrimmed journal.entries seen may_leave
    × pair.AreTrimmed journal.roots seen may_leave

-- each log keeps the frames of `kept`, and a crash may leave those of `more` where its gate isn't known
abbrev pub LogsRepresent : {D : Type 0} → Disk.Ghosts D → Journal → D → Bodies → Bodies → Type 0
LogsRepresent of_disk journal disk kept more = PairRepresents of_disk journal.entries disk kept more
    × PairRepresents of_disk journal.roots disk kept more
