-- The state of a pair of logs: which of them is current, and the frames that they have.
use Rattle.std.specs.Prelude.{◌≡◌, ◌⊎◌, ℕ, Option}
use Rattle.disk_model.specs.Logs.{Image, CrashImages}
use Rattle.disk_model.specs.declared.disk.Disk
use Rattle.frame_log.specs.LogStates.{file_of, IsUp, IsDown, IsWithin, IsTrimmed, Leaves, Represents}
use Rattle.frame_log.specs.declared.log.Log.{Log}
use Rattle.log_pair.specs.Bodies.{Bodies, MayHaveAt}
use Rattle.log_pair.specs.declared.current.Current.{Current}
use Rattle.log_pair.specs.declared.current.Current.TheVariants.{First, Second}
use Rattle.log_pair.specs.declared.pair.LogPair.{LogPair}

-- of two logs the one that is current
abbrev pub chosen : Current → Log → Log → Log
chosen First first second = first
chosen Second first second = second

-- the log that takes the next frame
abbrev pub current_of : LogPair → Log
current_of pair = chosen pair.current pair.first pair.second

-- the log that waits until it is reset
abbrev pub other_of : LogPair → Log
other_of pair = chosen pair.current pair.second pair.first

-- both logs of the pair have this
abbrev pub Both : (Log → Type 0) → LogPair → Type 0
Both Has pair = Has (current_of pair) × Has (other_of pair)

-- the pair has these logs, and this one is current
abbrev pub IsPairOf : Log → Log → Current → LogPair → Type 0
IsPairOf first second First pair = (current_of pair ≡ first) × (other_of pair ≡ second)
IsPairOf first second Second pair = (current_of pair ≡ second) × (other_of pair ≡ first)

-- the number of its first log; its second log has the next one
abbrev pub first_of : LogPair → ℕ
first_of pair = file_of pair.first

-- no log of the pair is down
abbrev pub AreUp : LogPair → Type 0
AreUp pair = Both IsUp pair

-- a log of the pair is down
abbrev pub HasDown : LogPair → Type 0
HasDown pair = IsDown (current_of pair) ⊎ IsDown (other_of pair)

-- the last gate of each log is within its file, where that is told
abbrev pub AreWithin : LogPair → Option Image → Type 0
AreWithin pair seen = Both (λ log. IsWithin log seen) pair

-- nothing is behind the last gate of either log, nor after a crash, where that is told
abbrev pub AreTrimmed : LogPair → Option Image → CrashImages → Type 0
AreTrimmed pair seen may_leave = Both (λ log. IsTrimmed log seen may_leave) pair

-- each log of the pair has the frames that are kept, or these and more
abbrev pub PairMayHave : LogPair → Bodies → Bodies → Image → Type 0
PairMayHave pair kept more image = Both (λ log. MayHaveAt (file_of log) kept more image) pair

-- what a crash may leave of a log: the frames of its file that it keeps, and where its gate isn't known perhaps more
abbrev pub LeavesAt : Bodies → Bodies → Image → Log → Type 0
LeavesAt kept more image log = Leaves log.state (kept (file_of log)) (more (file_of log)) (image (file_of log))

-- what a crash may leave of the pair
abbrev pub PairLeaves : LogPair → Bodies → Bodies → Image → Type 0
PairLeaves pair kept more image = Both (LeavesAt kept more image) pair

module _ {D : Type 0} (of_disk : Disk.Ghosts D) where
  -- the log keeps the frames of its file, and a crash may leave more beside them
  abbrev pub RepresentsAt : D → Bodies → Bodies → Log → Type 0
  RepresentsAt disk kept more log = Represents of_disk log disk (kept (file_of log)) (more (file_of log))

  -- each log of the pair keeps the frames of its file, and a crash may leave more beside them
  abbrev pub PairRepresents : LogPair → D → Bodies → Bodies → Type 0
  PairRepresents pair disk kept more = Both (RepresentsAt disk kept more) pair
