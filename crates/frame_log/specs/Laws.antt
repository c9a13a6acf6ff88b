-- Laws of logs.
use Rattle.std.specs.Prelude.{◌≡◌, ◌≢◌, ℕ, List}
use Rattle.disk_model.specs.declared.disk.Disk
use Rattle.frame_log.specs.Frames.{HasFrames, MayHave, IsDamaged}
use Rattle.frame_log.specs.LogStates.{file_of, IsWithin, Leaves, Represents, Holds}
use Rattle.disk_model.specs.Stretches.{SparesOthers, Since}
use Rattle.frame_log.specs.declared.log.Log.{Log}

-- a log has no two lists of frames
abbrev pub FramesAreOne : Type 0
FramesAreOne = (some others : List (List ℕ)) (bytes : List ℕ)
    → HasFrames some bytes → HasFrames others bytes → some ≡ others

-- where bytes are damaged they have no frames
abbrev pub DamagedHasNone : Type 0
DamagedHasNone = (place : ℕ) (bodies : List (List ℕ)) (bytes : List ℕ)
    → IsDamaged place bytes → HasFrames bodies bytes → ⊥

-- bytes are damaged at one place
abbrev pub DamageIsOne : Type 0
DamageIsOne = (place other : ℕ) (bytes : List ℕ) → IsDamaged place bytes → IsDamaged other bytes → place ≡ other

module _ {D : Type 0} (of_disk : Disk.Ghosts D) where
  -- a fact on each log, where nothing but another log changed
  abbrev pub OfOther : (Log → D → D → Type 0) → Type 0
  OfOther Fact = (file : ℕ) (log : Log) (old new : D) → file_of log ≢ file
      → SparesOthers of_disk file old new → Fact log old new

  -- its last gate stays within its file
  abbrev pub OthersStayWithin : Type 0
  OthersStayWithin = OfOther (λ log old new. IsWithin log (of_disk.seen old) → IsWithin log (of_disk.seen new))

  -- it represents the frames that it represented
  abbrev pub OthersRepresent : Type 0
  OthersRepresent = (kept more : List (List ℕ)) → OfOther (λ log old new.
      Represents of_disk log old kept more → Represents of_disk log new kept more)

  -- it has the frames that it had
  abbrev pub OthersHold : Type 0
  OthersHold = (kept : List (List ℕ)) → OfOther (λ log old new.
      Holds of_disk log old kept → Holds of_disk log new kept)

  -- at each moment a crash leaves of it what it might have left before
  abbrev pub OthersAreLeft : Type 0
  OthersAreLeft = (kept more : List (List ℕ)) → OfOther (λ log old new. Represents of_disk log old kept more
      → Since of_disk old new (λ c. Leaves log.state kept more (c (file_of log))))

  -- at each moment a crash leaves of both logs what it leaves of each
  abbrev pub BothAreLeft : Type 0
  BothAreLeft = (kept more held rest : List (List ℕ)) (file : ℕ) (log : Log) (old new : D) → file_of log ≢ file
      → SparesOthers of_disk file old new → Represents of_disk log old held rest
      → Since of_disk old new (λ c. MayHave kept more (c file))
      → Since of_disk old new (λ c. MayHave kept more (c file) × Leaves log.state held rest (c (file_of log)))
