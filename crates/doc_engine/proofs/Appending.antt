-- An append to a journal that is up and has room.
use Rattle.std.proofs.Common.{◌≡◌, ◌≤◌, ◌+◌, ◌^◌, ℕ, List, length, ap, refl, subst, sym, Result, Ok, Err, true, false}
use Rattle.std.proofs.Common.{arith}
use Rattle.std.proofs.lemmas.Result.{MatchResult-at_err, MatchResult-at_ok}
use Rattle.std.specs.Result.{is_err}
use Rattle.disk_model.specs.Causes.{Rose}
use Rattle.disk_model.specs.declared.disk.Disk
use Rattle.doc_model.specs.declared.op.Op.{Op}
use Rattle.doc_engine.specs.Checks.{HasRoom}
use Rattle.frame_log.specs.Calls.{AppendRefused, HasAppended, IsDownAt}
use Rattle.frame_log.specs.LogStates.{IsUp, end_of}
use Rattle.frame_log.specs.declared.log.Log.{Log}
use Rattle.frame_log.specs.declared.refusal.LogRefusal.{LogRefusal}
use Rattle.frame_log.specs.declared.refusal.LogRefusal.TheVariants.{Down, Fault, Long}
use Rattle.journal.specs.Calls.{Appends}
use Rattle.journal.specs.JournalStates.{AreUp, current_log}
use Rattle.journal.specs.declared.journal.Journal.{Journal}
use Rattle.log_pair.specs.PairStates as pair

pub err_of : {T E : Type 0} (r : Result T E) → is_err r ≡ true → (e : E) × (r ≡ Err e)
err_of (Ok x) err = absurd (cc)
err_of (Err e) err = (e, refl)

pub ok_of : {E : Type 0} (r : Result (Unit {0}) E) → is_err r ≡ false → r ≡ Ok tt
ok_of (Ok x) err = refl
ok_of (Err e) err = absurd (cc)

-- a frame that has room is taken
pub fits : (front : ℕ) (journal : Journal) (ops : List Op) (frame : List ℕ) → HasRoom front journal ops frame
    → end_of (current_log journal) + 10 + length frame ≤ 2 ^ 62
fits front journal ops frame room = omega (arith, room.room, ap length room.spelled.spelled)

module _ {D : Type 0} (faults : D → ℕ) (old new : Log) (before after : D) (body : ℕ) where
  -- a log refuses it by a fault alone, which leaves the log down
  only_faults : (e : LogRefusal) → IsUp old → end_of old + 10 + body ≤ 2 ^ 62
      → AppendRefused faults old new before after body e
      → IsDownAt (end_of old) new × Rose (faults before) (faults after)
  only_faults Down up room refused = absurd (refused.0 up)
  only_faults (Long end) up room refused = absurd (omega (arith, refused.2, room))
  only_faults Fault up room refused = (refused.1, refused.2)

module _ {D : Type 0} (of_disk : Disk.Ghosts D) (frame : List ℕ) (old new : Journal) (before after : D)
    (result : Result (Unit {0}) LogRefusal) (entry : Appends of_disk frame old new before after result)
    (up : AreUp old) where
  -- where a journal refuses it
  pub breaks : (e : LogRefusal) → result ≡ Err e → end_of (current_log old) + 10 + length frame ≤ 2 ^ 62
      → IsDownAt (end_of (current_log old)) (current_log new) × Rose (of_disk.faults before) (of_disk.faults after)
  breaks e is room =
      let was = current_log old in
      let now = current_log new in
      only_faults of_disk.faults was now before after (length frame) e up.0.0 room
      (MatchResult-at_err (λ _. HasAppended of_disk.faults was now before after (length frame))
      (AppendRefused of_disk.faults was now before after (length frame)) e is (entry.appends.answer up).answer)

  -- and where it has it
  pub takes : result ≡ Ok tt
      → HasAppended of_disk.faults (current_log old) (current_log new) before after (length frame)
  takes is =
      let was = current_log old in
      let now = current_log new in
      MatchResult-at_ok (λ _. HasAppended of_disk.faults was now before after (length frame))
      (AppendRefused of_disk.faults was now before after (length frame)) tt is (entry.appends.answer up).answer

  -- all logs are up then
  pub all_up : result ≡ Ok tt → AreUp new
  all_up is =
      ((((takes is).1), subst IsUp (sym entry.other) up.0.1), subst pair.AreUp (sym entry.roots) up.1)
