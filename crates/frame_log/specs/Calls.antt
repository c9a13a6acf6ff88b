-- What a call on a log returns, what the log is then, and which frames a crash leaves.
use Rattle.std.specs.Prelude.{◌≡◌, ℕ, ◌+◌, ◌^◌, ◌<◌, ◌≤◌, List, [], ◌∷◌, ◌++◌, Option, Result, MatchResult, IsErrOf}
use Rattle.disk_model.specs.Causes.{Rose}
use Rattle.disk_model.specs.Logs.{Image, CrashImages}
use Rattle.frame_log.specs.Frames.{MayHave}
use Rattle.frame_log.specs.LogStates.{file_of, end_of, IsUp, IsDown, IsEmpty, IsTrimmed, Represents, Holds}
use Rattle.disk_model.specs.Stretches.{Since}
use Rattle.disk_model.specs.declared.disk.Disk
use Rattle.frame_log.specs.declared.log.Log.{Log}
use Rattle.frame_log.specs.declared.refusal.LogRefusal.{LogRefusal}
use Rattle.frame_log.specs.declared.refusal.LogRefusal.TheVariants.{Down, Long, Fault}

-- the count of faults hasn't fallen, and rose where the call returned this fault
pub record Blames {T E : Type 0} (fault : E) (before now : ℕ) (result : Result T E) : Type 0 where
  pub later : before ≤ now
  pub rose : IsErrOf result fault → Rose before now

-- the log isn't down, and with a body of so many bytes it isn't longer than 2^62 bytes
abbrev pub Takes : Log → ℕ → Type 0
Takes log body = IsUp log × (end_of log + 10 + body ≤ 2 ^ 62)

-- why a log refuses a frame whose next gate is at this place
abbrev pub NotAdmitted : Log → ℕ → LogRefusal → Type 0
NotAdmitted log end Down = IsDown log
NotAdmitted log end (Long at) = IsUp log × (at ≡ end_of log) × (2 ^ 62 ≤ end)
NotAdmitted log end Fault = ⊥

-- nothing was done
abbrev pub NothingDone : {D : Type 0} → Log → Log → D → D → Type 0
NothingDone old new before after = (new ≡ old) × (after ≡ before)

-- the log is down, and its last gate is at this place
abbrev pub IsDownAt : ℕ → Log → Type 0
IsDownAt end log = IsDown log × (end_of log ≡ end)

module _ {D : Type 0} (faults : D → ℕ) (old new : Log) (before after : D) where
  -- a call keeps the log's number, and is done or refused
  pub record CallAnswers {T : Type 0} (done : Type 0) (refused : LogRefusal → Type 0)
      (result : Result T LogRefusal) : Type 0 where
    pub file : file_of new ≡ file_of old
    pub later : faults before ≤ faults after
    pub answer : MatchResult result (λ _. done) refused

  -- the log took a frame with a body of so many bytes
  abbrev pub HasAppended : ℕ → Type 0
  HasAppended body = Takes old body × IsUp new × (end_of new ≡ end_of old + 9 + body)

  -- why a frame was refused, and what the log is then
  abbrev pub AppendRefused : ℕ → LogRefusal → Type 0
  AppendRefused body Down = IsDown old × NothingDone old new before after
  AppendRefused body (Long end) =
      IsUp old × (end ≡ end_of old) × (2 ^ 62 < end_of old + 10 + body) × NothingDone old new before after
  AppendRefused body Fault = Takes old body × IsDownAt (end_of old) new × Rose (faults before) (faults after)

  -- what an append returns
  abbrev pub AppendAnswers : {T : Type 0} → ℕ → Result T LogRefusal → Type 0
  AppendAnswers body result = CallAnswers (HasAppended body) (AppendRefused body) result

  -- the log has no frame; where it had none before, nothing was done
  abbrev pub HasReset : Type 0
  HasReset = IsUp old × IsUp new × IsEmpty new × (IsEmpty old → NothingDone old new before after)

  -- why a reset was refused, and what the log is then
  abbrev pub ResetRefused : LogRefusal → Type 0
  ResetRefused Down = IsDown old × NothingDone old new before after
  ResetRefused (Long end) = ⊥
  ResetRefused Fault = IsUp old × (IsEmpty old → ⊥) × IsDownAt 0 new × Rose (faults before) (faults after)

  -- what a reset returns
  abbrev pub ResetAnswers : {T : Type 0} → Result T LogRefusal → Type 0
  ResetAnswers result = CallAnswers HasReset ResetRefused result

  -- the log is no longer down
  abbrev pub HasRevived : Type 0
  HasRevived = IsUp new × (end_of new ≡ end_of old)

  -- only a fault refuses a revive
  abbrev pub ReviveRefused : LogRefusal → Type 0
  ReviveRefused Down = ⊥
  ReviveRefused (Long end) = ⊥
  ReviveRefused Fault = IsDownAt (end_of old) new × Rose (faults before) (faults after)

  -- what a revive returns
  abbrev pub ReviveAnswers : {T : Type 0} → Result T LogRefusal → Type 0
  ReviveAnswers result = CallAnswers HasRevived ReviveRefused result

-- where the log had a frame, nothing is behind its last gate now, nor after a crash
abbrev pub TrimsFrames : Log → Log → Option Image → CrashImages → Type 0
TrimsFrames old new seen may_leave = (IsEmpty old → ⊥) → IsTrimmed new seen may_leave

module _ {D : Type 0} (of_disk : Disk.Ghosts D) where
  -- after Ok a crash leaves the frames `done`; after an error the log represents those kept; at each moment between a
  -- crash leaves those kept, or these and `more`
  pub record Leads {T : Type 0} (log : Log) (old new : D) (result : Result T LogRefusal)
      (done kept more : List (List ℕ)) : Type 0 where
    pub now : MatchResult result (λ _. Holds of_disk log new done) (λ _. Represents of_disk log new kept more)
    pub any_moment : Since of_disk old new (λ c. MayHave kept more (c (file_of log)))

  -- a gate that a fault may have opened is closed, and the log represents the same frames
  abbrev pub Shuts : Log → Log → D → D → Type 0
  Shuts old new before after = (kept more : List (List ℕ)) → Represents of_disk old before kept more
      → Represents of_disk new after kept more
      × Since of_disk before after (λ c. MayHave kept more (c (file_of new)))

  -- after Ok the log has its frames and the new one; at each moment a crash leaves its frames, or these and the new one
  abbrev pub Adds : {T : Type 0} → List ℕ → Log → Log → D → D → Result T LogRefusal → Type 0
  Adds body old new before after result = (kept : List (List ℕ)) → Holds of_disk old before kept
      → Leads new before after result (kept ++ body ∷ []) kept (body ∷ [])

  -- after Ok the log has no frame; at each moment a crash leaves no frame, or those that it had
  abbrev pub Empties : {T : Type 0} → Log → Log → D → D → Result T LogRefusal → Type 0
  Empties old new before after result = (kept : List (List ℕ)) → Holds of_disk old before kept
      → Leads new before after result [] [] kept

  -- after Ok the log has the frames that it keeps; at each moment a crash leaves these, or these and more
  abbrev pub BringsBack : {T : Type 0} → Log → Log → D → D → Result T LogRefusal → Type 0
  BringsBack old new before after result = (kept more : List (List ℕ)) → Represents of_disk old before kept more
      → Leads new before after result kept kept more
