-- What a call on a pair returns, and which frames a crash leaves of its logs.
use Rattle.std.specs.Prelude.{◌≡◌, ℕ, ◌≤◌, List, [], ◌∷◌, Option, Result, MatchResult}
use Rattle.disk_model.specs.Causes.{Rose}
use Rattle.disk_model.specs.Logs.{Image, CrashImages}
use Rattle.disk_model.specs.Stretches.{Since}
use Rattle.disk_model.specs.declared.disk.Disk
use Rattle.frame_log.specs.Calls.{TrimsFrames}
use Rattle.frame_log.specs.LogStates.{file_of, end_of, IsGateUnknown, IsTrimmed, IsUp}
use Rattle.frame_log.specs.declared.log.Log.{Log}
use Rattle.frame_log.specs.declared.refusal.LogRefusal.{LogRefusal}
use Rattle.frame_log.specs.declared.refusal.LogRefusal.TheVariants.{Down, Long, Fault}
use Rattle.log_pair.specs.Bodies.{Bodies, no_bodies, with_bodies, with_body}
use Rattle.log_pair.specs.PairStates.{current_of, other_of, AreUp, HasDown, PairMayHave, PairRepresents}
use Rattle.log_pair.specs.declared.pair.LogPair.{LogPair}

-- the log keeps its number and the place of its last gate
abbrev pub KeepsPlace : Log → Log → Type 0
KeepsPlace old new = (file_of new ≡ file_of old) × (end_of new ≡ end_of old)

-- no gate has become unknown
abbrev pub KeepsGates : LogPair → LogPair → Type 0
KeepsGates old new = (IsGateUnknown (current_of new) → IsGateUnknown (current_of old))
    × (IsGateUnknown (other_of new) → IsGateUnknown (other_of old))

module _ {D : Type 0} (faults : D → ℕ) (old new : LogPair) (before after : D) where
  -- only a fault refuses a revive, and then a log is down
  abbrev pub PairReviveRefused : LogRefusal → Type 0
  PairReviveRefused Down = ⊥
  PairReviveRefused (Long end) = ⊥
  PairReviveRefused Fault = HasDown new × Rose (faults before) (faults after)

  -- what a revive of a pair returns
  pub record PairReviveAnswers {T : Type 0} (result : Result T LogRefusal) : Type 0 where
    pub current : KeepsPlace (current_of old) (current_of new)
    pub other : KeepsPlace (other_of old) (other_of new)
    pub later : faults before ≤ faults after
    pub answer : MatchResult result (λ _. AreUp new) PairReviveRefused

-- where the other log had a frame, nothing is behind its last gate; the current log stays trimmed
abbrev pub TrimsOther : LogPair → LogPair → Option Image → Option Image → CrashImages → CrashImages → Type 0
TrimsOther old new seen after may_leave left = TrimsFrames (other_of old) (other_of new) after left
    × (IsTrimmed (current_of old) seen may_leave → IsTrimmed (current_of new) after left)

module _ {D : Type 0} (of_disk : Disk.Ghosts D) where
  -- after Ok the pair represents the frames `done`, after an error those kept and more; at each moment between a crash
  -- leaves of both logs those kept, or these and more
  pub record PairLeads {T : Type 0} (pair : LogPair) (old new : D) (result : Result T LogRefusal)
      (done besides kept more : Bodies) : Type 0 where
    pub now : MatchResult result (λ _. PairRepresents of_disk pair new done besides)
        (λ _. PairRepresents of_disk pair new kept more)
    pub any_moment : Since of_disk old new (PairMayHave pair kept more)

  -- after Ok the current log has its frames and the new one; at each moment a crash leaves its frames, or these and
  -- the new one
  abbrev pub AddsToCurrent : {T : Type 0} → List ℕ → LogPair → LogPair → D → D → Result T LogRefusal → Type 0
  AddsToCurrent body old new before after result = (kept more : Bodies)
      → PairRepresents of_disk old before kept more → IsUp (current_of old)
      → PairLeads new before after result (with_body kept (file_of (current_of old)) body) more
      kept (with_bodies more (file_of (current_of old)) (body ∷ []))

  -- after Ok the other log has no frame; at each moment a crash leaves no frame of it, or those that it had
  abbrev pub EmptiesOther : {T : Type 0} → LogPair → LogPair → D → D → Result T LogRefusal → Type 0
  EmptiesOther old new before after result = (kept more : Bodies)
      → PairRepresents of_disk old before kept more → IsUp (other_of old)
      → PairLeads new before after result (with_bodies kept (file_of (other_of old)) []) more
      (with_bodies kept (file_of (other_of old)) [])
      (with_bodies more (file_of (other_of old)) (kept (file_of (other_of old))))

  -- after Ok both logs have the frames that they keep; at each moment a crash leaves these, or these and more
  abbrev pub BringsBoth : {T : Type 0} → LogPair → LogPair → D → D → Result T LogRefusal → Type 0
  BringsBoth old new before after result = (kept more : Bodies) → PairRepresents of_disk old before kept more
      → PairLeads new before after result kept no_bodies kept more
