-- The state of a log: its place on a disk, its faults, and the frames that it has.
use Rattle.std.specs.Prelude.{◌≡◌, ◌≢◌, ℕ, ◌+◌, ◌≤◌, List, [], length, Option, IsSome, IfSome}
use Rattle.disk_model.specs.Logs.{Image, CrashImages}
use Rattle.disk_model.specs.Stretches.{SparesOthers}
use Rattle.disk_model.specs.declared.disk.Disk
use Rattle.frame_log.specs.Frames.{framed, HasFrames, HasGate}
use Rattle.frame_log.specs.declared.log.Log.{Log}
use Rattle.frame_log.specs.declared.state.State.{State}
use Rattle.frame_log.specs.declared.state.State.TheVariants.{Healthy, Failed, GateUnknown}

-- its number on the disk
abbrev pub file_of : Log → ℕ
file_of log = log.file

-- the place of its last gate
abbrev pub end_of : Log → ℕ
end_of log = log.end

-- the log met no fault, or was revived since
abbrev pub IsUp : Log → Type 0
IsUp log = log.state ≡ Healthy

-- the log met a fault and wasn't revived
abbrev pub IsDown : Log → Type 0
IsDown log = log.state ≢ Healthy

-- the log met a fault while its gate was written, and wasn't revived
abbrev pub IsGateUnknown : Log → Type 0
IsGateUnknown log = log.state ≡ GateUnknown

-- the log has no frame
abbrev pub IsEmpty : Log → Type 0
IsEmpty log = log.end ≡ 0

-- a log of this file without frames, which isn't down
abbrev pub IsBlank : ℕ → Log → Type 0
IsBlank file log = (file_of log ≡ file) × IsUp log × IsEmpty log

-- the log's last gate is within its file, where that is told
abbrev pub IsWithin : Log → Option Image → Type 0
IsWithin log seen = IfSome seen (λ image. log.end + 1 ≤ length (image log.file))

-- nothing is behind the log's last gate, nor after a crash, where that is told
abbrev pub IsTrimmed : Log → Option Image → CrashImages → Type 0
IsTrimmed log seen may_leave = IfSome seen (λ _. (c : Image) → may_leave c → length (c log.file) ≡ log.end + 1)

-- what a crash may leave of a log: the frames that it keeps, and where its gate isn't known perhaps more
abbrev pub Leaves : State → List (List ℕ) → List (List ℕ) → List ℕ → Type 0
Leaves Healthy kept more = HasFrames kept
Leaves Failed kept more = HasFrames kept
Leaves GateUnknown kept more = HasGate kept more

module _ {D : Type 0} (of_disk : Disk.Ghosts D) where
  -- the log keeps these frames, and a crash may leave more beside them
  pub record Represents (log : Log) (disk : D) (kept more : List (List ℕ)) : Type 0 where
    pub told : IsSome (of_disk.seen disk)
    pub at_end : log.end ≡ length (framed kept)
    pub images : (c : Image) → of_disk.may_leave disk c → Leaves log.state kept more (c log.file)

  -- the log isn't down, and a crash leaves these frames
  pub record Holds (log : Log) (disk : D) (kept : List (List ℕ)) : Type 0 where
    pub good : IsUp log
    pub represents : Represents log disk kept []

  -- nothing but this log changed, and its last gate is within its file
  pub record KeepsToLog (log : Log) (old new : D) : Type 0 where
    pub others : SparesOthers of_disk (file_of log) old new
    pub within : IsWithin log (of_disk.seen new)
