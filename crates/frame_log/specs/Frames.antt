-- The bytes of a log: frames between open gates, and the closed gate that ends them.
use Rattle.std.specs.Prelude.{◌≡◌, ◌≢◌, ◌⊎◌, ℕ, ◌^◌, ◌<◌, ◌≤◌, List, [], ◌∷◌, ◌++◌, length, Result, MatchResult}
use Rattle.std.specs.List.{flat_map}
use Rattle.std.specs.Int.{w64, to_be_bytes}
use Rattle.frame_log.specs.declared.frame.TheConstants.{OPEN}

-- a frame without its open gate: the length of the body, and the body
abbrev pub sized : List ℕ → List ℕ
sized body = to_be_bytes w64 (length body) ++ body

-- a frame with its open gate, up to the next gate
abbrev pub open_frame : List ℕ → List ℕ
open_frame body = OPEN ∷ sized body

-- the open frames of these bodies, one after the other
abbrev pub framed : List (List ℕ) → List ℕ
framed bodies = flat_map open_frame bodies

-- the log has these frames: a closed gate follows them, and what is behind that isn't read
pub record HasFrames (bodies : List (List ℕ)) (bytes : List ℕ) : Type 0 where
  pub gate : ℕ
  pub behind : List ℕ
  pub whole : bytes ≡ framed bodies ++ gate ∷ behind
  pub closed : gate ≢ OPEN
  pub short : length bytes ≤ 2 ^ 62

-- the gate behind these frames may be open or closed; if it is open, the log has more frames
pub record HasGate (kept more : List (List ℕ)) (bytes : List ℕ) : Type 0 where
  pub gate : ℕ
  pub behind : List ℕ
  pub whole : bytes ≡ framed kept ++ gate ∷ behind
  pub opens : HasFrames (kept ++ more) (framed kept ++ OPEN ∷ behind)

-- the log has the frames that are kept, or more
abbrev pub MayHave : List (List ℕ) → List (List ℕ) → List ℕ → Type 0
MayHave kept more bytes = HasFrames kept bytes ⊎ HasFrames (kept ++ more) bytes

-- the bytes behind an open gate begin with a whole frame and its next gate
pub record BeginsWhole (bytes : List ℕ) : Type 0 where
  pub body : List ℕ
  pub gate : ℕ
  pub behind : List ℕ
  pub whole : bytes ≡ sized body ++ gate ∷ behind

-- whole frames end at this place, where an open gate has a frame that isn't whole
pub record IsBroken (at : ℕ) (bytes : List ℕ) : Type 0 where
  pub bodies : List (List ℕ)
  pub behind : List ℕ
  pub whole : bytes ≡ framed bodies ++ OPEN ∷ behind
  pub place : at ≡ length (framed bodies)
  pub broken : BeginsWhole behind → ⊥
  pub early : at < 2 ^ 62

-- no frame is broken before 2^62, but there are more than 2^62 bytes
pub record IsTooLong (at : ℕ) (bytes : List ℕ) : Type 0 where
  pub place : at ≡ 2 ^ 62
  pub long : 2 ^ 62 < length bytes
  pub unbroken : (earlier : ℕ) → IsBroken earlier bytes → ⊥

-- the bytes are damaged at this place: there are none, too many, or a broken frame
abbrev pub IsDamaged : ℕ → List ℕ → Type 0
IsDamaged place bytes = ((bytes ≡ []) × (place ≡ 0)) ⊎ (IsTooLong place bytes ⊎ IsBroken place bytes)

-- what the bytes hold: the bodies of their frames, or a damage at its place
abbrev pub Frames : List ℕ → Result (List (List ℕ)) ℕ → Type 0
Frames bytes found = MatchResult found (λ bodies. HasFrames bodies bytes) (λ place. IsDamaged place bytes)
