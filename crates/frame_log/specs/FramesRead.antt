-- How far a reader has come through the frames of a log.
use Rattle.std.specs.Prelude.{◌≡◌, ℕ, ◌+◌, ◌^◌, ◌<◌, ◌≤◌, List, [], ◌∷◌, ◌++◌, length, Option, Some, None, IfSome, Result, MatchResult, Vec, ⊤}
use Rattle.std.specs.declared.alloc.Global.{Global}
use Rattle.disk_model.specs.Logs.{Image}
use Rattle.disk_model.specs.Stretches.{OnlyRead}
use Rattle.disk_model.specs.declared.disk.Disk
use Rattle.frame_log.specs.Frames.{framed, HasFrames, BeginsWhole}
use Rattle.frame_log.specs.Scanned.{Opens}
use Rattle.frame_log.specs.declared.frame.TheConstants.{OPEN}
use Rattle.frame_log.specs.declared.frame_reader.FrameReader.{FrameReader}
use Rattle.frame_log.specs.declared.log.Log.{Log}
use Rattle.frame_log.specs.declared.refusal.ScanRefusal.{ScanRefusal}
use Rattle.frame_log.specs.declared.refusal.ScanRefusal.TheVariants.{Fault, Damaged, Memory}

-- the number of the reader's log on the disk
abbrev pub log_file : FrameReader → ℕ
log_file reader = reader.file

-- how many bytes the log has
abbrev pub log_length : FrameReader → ℕ
log_length reader = reader.len

-- the place of the gate behind the frames that were read
abbrev pub next_gate : FrameReader → ℕ
next_gate reader = reader.gate

-- the log has as many bytes as it had when the reader began, where that is told
abbrev pub KeepsLength : FrameReader → Option Image → Type 0
KeepsLength reader seen = IfSome seen (λ image. log_length reader ≡ length (image (log_file reader)))

-- a reader at the start of this log
abbrev pub IsAtStart : ℕ → FrameReader → Type 0
IsAtStart file reader = (log_file reader ≡ file) × (next_gate reader ≡ 0)

-- the frames that were read have these bodies: the bytes begin with them, and the next gate follows
pub record HasRead (reader : FrameReader) (bodies : List (List ℕ)) (bytes : List ℕ) : Type 0 where
  pub gate : ℕ
  pub behind : List ℕ
  pub whole : bytes ≡ framed bodies ++ gate ∷ behind
  pub place : next_gate reader ≡ length (framed bodies)
  pub all : log_length reader ≡ length bytes

-- why a reader didn't begin
abbrev pub NotBegun : List ℕ → ScanRefusal → Type 0
NotBegun bytes Fault = ⊤
NotBegun bytes (Damaged place) = (bytes ≡ []) × (place ≡ 0)
NotBegun bytes Memory = ⊥

-- the reader moved past the frame of this body, to the next gate
pub record MovesPast (body : List ℕ) (old new : FrameReader) : Type 0 where
  pub same_file : log_file new ≡ log_file old
  pub same_length : log_length new ≡ log_length old
  pub gate : next_gate new ≡ next_gate old + 9 + length body
  pub inside : next_gate new < log_length new
  pub short : log_length new ≤ 2 ^ 62

-- the reader moved past the frame that it found, or found none and stayed
abbrev pub Moves : FrameReader → FrameReader → Option (Vec ℕ Global) → Type 0
Moves old new None = new ≡ old
Moves old new (Some body) = MovesPast body.items old new

-- at the gate behind these bodies: one more frame, or the end
abbrev pub FindsNext : FrameReader → List (List ℕ) → List ℕ → Option (Vec ℕ Global) → Type 0
FindsNext reader bodies bytes None = HasFrames bodies bytes
FindsNext reader bodies bytes (Some body) = HasRead reader (bodies ++ body.items ∷ []) bytes

-- behind these bodies, at this place, an open gate has a frame that isn't whole
pub record IsBrokenBehind (bodies : List (List ℕ)) (bytes : List ℕ) (place : ℕ) : Type 0 where
  pub behind : List ℕ
  pub whole : bytes ≡ framed bodies ++ OPEN ∷ behind
  pub broken : BeginsWhole behind → ⊥
  pub at_gate : place ≡ length (framed bodies)
  pub early : place < 2 ^ 62

-- why the frame behind these bodies wasn't read
abbrev pub NotFound : List (List ℕ) → List ℕ → ScanRefusal → Type 0
NotFound bodies bytes Fault = ⊤
NotFound bodies bytes (Damaged place) = IsBrokenBehind bodies bytes place
NotFound bodies bytes Memory = ⊤

-- of bytes whose frames were read up to here: the next one is found, or the end, or why not
abbrev pub ReadsOn : FrameReader → FrameReader → List ℕ → Result (Option (Vec ℕ Global)) ScanRefusal → Type 0
ReadsOn old new bytes result = (bodies : List (List ℕ)) → HasRead old bodies bytes
    → MatchResult result (FindsNext new bodies bytes) (NotFound bodies bytes)

-- where all frames of the log were read, and the disk is only read, this log ends behind them
abbrev pub OpensRead : {D : Type 0} → Disk.Ghosts D → FrameReader → Log → Type 0
OpensRead {D} of_disk reader log = (bodies : List (List ℕ)) (old new : D) → next_gate reader ≡ length (framed bodies)
    → IfSome (of_disk.seen old) (λ image. HasFrames bodies (image (log_file reader)))
    → OnlyRead of_disk old new → Opens of_disk (log_file reader) old new log bodies
