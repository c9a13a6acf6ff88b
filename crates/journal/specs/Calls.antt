-- What a call on a journal does.
use Rattle.std.specs.Prelude.{ℕ, ◌≡◌, ◌≤◌, List, [], length, Option, Some, None, Result, Ok, Err, MatchResult, OnOk}
use Rattle.disk_model.specs.Causes.{Rose}
use Rattle.disk_model.specs.Stretches.{Since}
use Rattle.disk_model.specs.declared.disk.Disk
use Rattle.directory_meaning.specs.Bodies.{Bodies, MayHaveBodies}
use Rattle.directory_meaning.specs.Laws.{no_bodies}
use Rattle.directory_meaning.specs.Shown.{only_body, with_body}
use Rattle.frame_log.specs.Calls.{AppendAnswers}
use Rattle.frame_log.specs.LogStates.{end_of, file_of}
use Rattle.frame_log.specs.declared.log.Log.{Log}
use Rattle.frame_log.specs.declared.refusal.LogRefusal.{LogRefusal}
use Rattle.frame_log.specs.declared.refusal.LogRefusal.TheVariants.{Down, Long, Fault}
use Rattle.frame_log.specs.declared.state.State.{State}
use Rattle.frame_log.specs.declared.state.State.TheVariants.{Healthy, Failed, GateUnknown}
use Rattle.journal.specs.JournalStates.{AreUp, LogsRepresent, current_log, current_of, frozen_after, kept_root_log, next_root_log, root_log}
use Rattle.journal.specs.declared.broken_off.BrokenOff.{BrokenOff}
use Rattle.journal.specs.declared.broken_off.BrokenOff.TheVariants as broken
use Rattle.journal.specs.declared.journal.Journal.{Journal}
use Rattle.log_pair.specs.Bodies.{with_bodies}
use Rattle.log_pair.specs.Calls.{KeepsPlace}
use Rattle.log_pair.specs.PairStates.{other_of}

-- what is broken off once a log is in this state: the call, if a fault touched its gate, else what was before
abbrev pub broken_off_at : State → BrokenOff → Option BrokenOff → Option BrokenOff
broken_off_at Healthy what before = before
broken_off_at Failed what before = before
broken_off_at GateUnknown what before = Some what

module _ {D : Type 0} (of_disk : Disk.Ghosts D) where
  -- the logs have one more frame, or the same as before; at each moment a crash leaves the one or the other
  pub record Adds {T : Type 0} (file : ℕ) (body : List ℕ) (new : Journal) (before after : D) (kept : Bodies)
      (result : Result T LogRefusal) : Type 0 where
    pub now : MatchResult result (λ _. LogsRepresent of_disk new after (with_body kept file body) no_bodies)
        (λ _. LogsRepresent of_disk new after kept (only_body file body))
    pub any_moment : Since of_disk before after (MayHaveBodies kept (only_body file body))

  -- while a log is down nothing is done. Else this log, which was in the one state and is in the other, took a frame or
  -- refused it, and what a fault broke off is known
  pub record AppendsTo {T : Type 0} (log log' : Log) (body : List ℕ) (what : BrokenOff) (old new : Journal)
      (before after : D) (result : Result T LogRefusal) : Type 0 where
    pub down : (AreUp old → ⊥) → (result ≡ Err Down) × (new ≡ old) × (after ≡ before)
    pub answer : AreUp old → AppendAnswers of_disk.faults log log' before after (length body) result
    pub frames : (kept : Bodies) → LogsRepresent of_disk old before kept no_bodies → AreUp old
        → Adds (file_of log) body new before after kept result
    pub broken : AreUp old → new.broken_off ≡ broken_off_at log'.state what old.broken_off

  -- the current journal took an entry's frame or refused it, and nothing else changed
  pub record Appends {T : Type 0} (body : List ℕ) (old new : Journal) (before after : D)
      (result : Result T LogRefusal) : Type 0 where
    pub appends : AppendsTo (current_log old) (current_log new) body broken.Entry old new before after result
    pub other : other_of new.entries ≡ other_of old.entries
    pub roots : new.roots ≡ old.roots
    pub frozen : new.frozen ≡ old.frozen

  -- the root log that takes the next root took a root's frame or refused it, and is current unless a log was down. With
  -- the root in place its checkpoint counts. The other root log and the journals stay
  pub record AppendsRoot {T : Type 0} (body : List ℕ) (checkpoint : ℕ) (old new : Journal) (before after : D)
      (result : Result T LogRefusal) : Type 0 where
    pub appends : AppendsTo (next_root_log old) (root_log new) body broken.Root old new before after result
    pub other : AreUp old → other_of new.roots ≡ kept_root_log old
    pub entries : new.entries ≡ old.entries
    pub frozen : MatchResult result (λ _. new.frozen ≡ frozen_after checkpoint old.frozen) (λ _. new.frozen ≡ old.frozen)

  -- only a fault refuses a revive: a log is down, and what was broken off is so still
  abbrev pub ReviveRefused : Journal → Journal → D → D → LogRefusal → Type 0
  ReviveRefused old new before after Down = ⊥
  ReviveRefused old new before after (Long end) = ⊥
  ReviveRefused old new before after Fault =
      (AreUp new → ⊥) × (new.broken_off ≡ old.broken_off) × Rose (of_disk.faults before) (of_disk.faults after)

  -- after Ok the logs have the frames that they keep; at each moment a crash leaves these, or these and more
  pub record Returns {T : Type 0} (new : Journal) (before after : D) (kept more : Bodies)
      (result : Result T LogRefusal) : Type 0 where
    pub now : MatchResult result (λ _. LogsRepresent of_disk new after kept no_bodies)
        (λ _. LogsRepresent of_disk new after kept more)
    pub any_moment : Since of_disk before after (MayHaveBodies kept more)

  -- the logs were brought back to their frames, or the disk failed
  pub record Revives {T : Type 0} (old new : Journal) (before after : D) (result : Result T LogRefusal) : Type 0 where
    pub answer : MatchResult result (λ _. AreUp new × (new.broken_off ≡ None)) (ReviveRefused old new before after)
    pub later : of_disk.faults before ≤ of_disk.faults after
    pub frames : (kept more : Bodies) → LogsRepresent of_disk old before kept more
        → Returns new before after kept more result
    pub current : KeepsPlace (current_log old) (current_log new)
    pub other : KeepsPlace (other_of old.entries) (other_of new.entries)
    pub root : KeepsPlace (root_log old) (root_log new)
    pub other_root : KeepsPlace (other_of old.roots) (other_of new.roots)
    pub frozen : new.frozen ≡ old.frozen

  -- only a fault refuses a restart
  abbrev pub RestartRefused : D → D → LogRefusal → Type 0
  RestartRefused before after Down = ⊥
  RestartRefused before after (Long end) = ⊥
  RestartRefused before after Fault = Rose (of_disk.faults before) (of_disk.faults after)

  -- the journal that wasn't current lost its frames; at each moment it has all or none
  pub record Empties {T : Type 0} (file : ℕ) (new : Journal) (before after : D) (kept : Bodies)
      (result : Result T LogRefusal) : Type 0 where
    pub now : OnOk result (LogsRepresent of_disk new after (with_bodies kept file []) no_bodies)
    pub any_moment : Since of_disk before after
        (MayHaveBodies (with_bodies kept file []) (with_bodies no_bodies file (kept file)))

  -- the journal that wasn't current lost its frames and is current now; or the disk failed, and the reset was broken off
  pub record Restarts {T : Type 0} (old new : Journal) (before after : D) (result : Result T LogRefusal) : Type 0 where
    pub answer : MatchResult result
        (λ _. AreUp new × (file_of (current_log new) ≡ file_of (other_of old.entries)) × (end_of (current_log new) ≡ 0)
        × (other_of new.entries ≡ current_log old))
        (RestartRefused before after)
    pub broken : MatchResult result (λ _. new.broken_off ≡ old.broken_off) (λ _. new.broken_off ≡ Some broken.Reset)
    pub later : of_disk.faults before ≤ of_disk.faults after
    pub frames : (kept : Bodies) → LogsRepresent of_disk old before kept no_bodies
        → Empties (file_of (other_of old.entries)) new before after kept result
    pub roots : new.roots ≡ old.roots
    pub frozen : new.frozen ≡ old.frozen
