-- What a scan of a log finds.
use Rattle.std.specs.Prelude.{◌≡◌, ◌≢◌, ℕ, ◌<◌, List, ◌∷◌, ◌++◌, length, take, drop, map, Bool, true, false, Option, Some, None, IsSome, Result, Ok, Err, MatchResult, Vec, ⊤}
use Rattle.std.specs.Int.{w64, to_be_bytes}
use Rattle.std.specs.declared.alloc.Global.{Global}
use Rattle.disk_model.specs.Logs.{Settled}
use Rattle.disk_model.specs.declared.disk.Disk
use Rattle.frame_log.specs.Frames.{open_frame, framed, BeginsWhole, Frames}
use Rattle.frame_log.specs.LogStates.{file_of, end_of, IsUp, IsWithin, Holds}
use Rattle.frame_log.specs.declared.log.Log.{Log}
use Rattle.frame_log.specs.declared.frame.TheConstants.{OPEN}
use Rattle.frame_log.specs.declared.refusal.ScanRefusal.{ScanRefusal}
use Rattle.frame_log.specs.declared.refusal.ScanRefusal.TheVariants.{Fault, Damaged, Memory}

-- the bodies that were read
abbrev pub bodies_of : Vec (Vec ℕ Global) Global → List (List ℕ)
bodies_of bodies = map (λ body. body.items) bodies.items

-- the first n bytes of out were read from this place on
abbrev pub IsRead : List ℕ → ℕ → ℕ → List ℕ → Type 0
IsRead bytes place n out = take n out ≡ take n (drop place bytes)

-- a closed gate
pub record EndsAt (rest : List ℕ) : Type 0 where
  pub gate : ℕ
  pub behind : List ℕ
  pub whole : rest ≡ gate ∷ behind
  pub closed : gate ≢ OPEN

-- an open gate, or a closed one
abbrev pub IsGate : List ℕ → Bool → Type 0
IsGate rest true = rest ≡ OPEN ∷ drop 1 rest
IsGate rest false = EndsAt rest

-- an open gate, and the length of a body of so many bytes
pub record HasSize (rest : List ℕ) (size : ℕ) : Type 0 where
  pub opens : rest ≡ OPEN ∷ drop 1 rest
  pub spelled : take 8 (drop 1 rest) ≡ to_be_bytes w64 size

-- a frame, and its next gate
pub record BeginsWith (body rest : List ℕ) : Type 0 where
  pub behind : List ℕ
  pub whole : rest ≡ open_frame body ++ behind
  pub gated : 0 < length behind

-- what is at the next gate: a frame or the end
abbrev pub IsNext : List ℕ → Option (Vec ℕ Global) → Type 0
IsNext rest None = EndsAt rest
IsNext rest (Some body) = BeginsWith body.items rest

-- an open gate whose frame isn't whole
pub record BreaksAt (rest : List ℕ) : Type 0 where
  pub behind : List ℕ
  pub whole : rest ≡ OPEN ∷ behind
  pub broken : BeginsWhole behind → ⊥

-- why a gate at this place wasn't read
abbrev pub NotNext : ℕ → List ℕ → ScanRefusal → Type 0
NotNext place rest Fault = ⊤
NotNext place rest (Damaged at) = (at ≡ place) × BreaksAt rest
NotNext place rest Memory = ⊤

-- why a log wasn't read
abbrev pub NotScanned : List ℕ → ScanRefusal → Type 0
NotScanned bytes Fault = ⊤
NotScanned bytes (Damaged place) = Frames bytes (Err place)
NotScanned bytes Memory = ⊤

-- a scan returns the frames of these bytes or their damage, unless the disk fails or memory runs out
abbrev pub Scans : List ℕ → Result (Log × Vec (Vec ℕ Global) Global) ScanRefusal → Type 0
Scans bytes result = MatchResult result (λ found. Frames bytes (Ok (bodies_of found.1))) (NotScanned bytes)

-- a log that was scanned ends behind these frames; where a crash leaves what was read, it leaves these frames
pub record Opens {D : Type 0} (of_disk : Disk.Ghosts D) (file : ℕ) (old new : D)
    (log : Log) (bodies : List (List ℕ)) : Type 0 where
  pub of_file : file_of log ≡ file
  pub up : IsUp log
  pub place : end_of log ≡ length (framed bodies)
  pub within : IsWithin log (of_disk.seen new)
  pub holds : IsSome (of_disk.seen old) → Settled file (of_disk.seen old) (of_disk.may_leave old)
      → Holds of_disk log new bodies
