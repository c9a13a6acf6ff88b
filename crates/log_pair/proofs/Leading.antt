-- What the calls of a pair lead to.
use Rattle.std.proofs.Common.{◌≡◌, ◌≢◌, ◌∙◌, refl, sym, ap, subst, ℕ, List, [], ◌∷◌, ◌++◌, Result, Ok, Err, OnOk}
use Rattle.disk_model.specs.declared.disk.Disk
use Rattle.frame_log.specs.Calls.{Adds, Empties, TrimsFrames}
use Rattle.frame_log.specs.LogStates.{file_of, IsTrimmed, KeepsToLog}
use Rattle.frame_log.specs.declared.log.Log.{Log}
use Rattle.frame_log.specs.declared.refusal.LogRefusal.{LogRefusal}
use Rattle.frame_log.proofs.Stretches.{throughout_both}
use Rattle.log_pair.specs.Bodies.{MayHaveAt, with_bodies, with_body}
use Rattle.log_pair.specs.Calls.{AddsToCurrent, EmptiesOther, TrimsOther}
use Rattle.log_pair.specs.PairStates.{current_of, other_of, RepresentsAt}
use Rattle.log_pair.specs.declared.pair.LogPair.{LogPair}
use Rattle.log_pair.proofs.Two.{CountsNow}
use Rattle.log_pair.proofs.OneOfTwo.{other_apart, current_apart, bodies_here, bodies_there, body_here, body_there, both_now, up_holds, called_now, called_may, other_trimmed, other_may, other_now}

module _ {D : Type 0} (of_disk : Disk.Ghosts D) (old new : LogPair) (before after : D)
    (counts : CountsNow of_disk after) where
  -- a call on the current log
  module _ (same : other_of new ≡ other_of old) (file : file_of (current_of new) ≡ file_of (current_of old))
      (keeps : KeepsToLog of_disk (current_of new) before after) where
    other_from : file_of (other_of new) ≢ file_of (current_of new)
    other_from = other_apart new

    adds : {T : Type 0} (body : List ℕ) (result : Result T LogRefusal)
        → Adds of_disk body (current_of old) (current_of new) before after result
        → AddsToCurrent of_disk body old new before after result
    adds body result led kept more represents up =
        let at = file_of (current_of old) in
        let wait : RepresentsAt of_disk before kept more (other_of new) = rw same represents.1 in
        let away : file_of (other_of new) ≢ at = λ e. other_from (e ∙ sym file) in
        let all_there = body_there kept at body (file_of (other_of new)) away in
        let rest_there = bodies_there more at (body ∷ []) (file_of (other_of new)) away in
        let leads = led (kept at) (up_holds of_disk (current_of old) before (kept at) (more at) up represents.0) in
        record {
          now = both_now result _ _ _ _
              (called_now of_disk (current_of new) before after at file result (kept at ++ body ∷ []) (kept at)
              (body ∷ []) (with_body kept at body) more kept (with_bodies more at (body ∷ []))
              (body_here kept at body) refl (bodies_here more at (body ∷ [])) leads.now)
              (other_now of_disk (file_of (current_of new)) (other_of new) before after other_from keeps.others result
              kept more (with_body kept at body) more kept (with_bodies more at (body ∷ []))
              all_there refl refl rest_there counts wait);
          any_moment = throughout_both _ _ _ _
              (MayHaveAt (file_of (current_of new)) kept (with_bodies more at (body ∷ [])))
              (MayHaveAt (file_of (other_of new)) kept (with_bodies more at (body ∷ [])))
              (called_may of_disk (current_of new) before after at file (kept at) (body ∷ []) kept
              (with_bodies more at (body ∷ [])) refl (bodies_here more at (body ∷ [])) leads.any_moment)
              (other_may of_disk (file_of (current_of new)) (other_of new) before after other_from keeps.others
              kept more kept (with_bodies more at (body ∷ [])) refl rest_there wait);
        }

  -- a call on the other log
  module _ (same : current_of new ≡ current_of old) (file : file_of (other_of new) ≡ file_of (other_of old))
      (keeps : KeepsToLog of_disk (other_of new) before after) where
    current_from : file_of (current_of new) ≢ file_of (other_of new)
    current_from = current_apart new

    current_trimmed : IsTrimmed (current_of old) (of_disk.seen before) (of_disk.may_leave before)
        → IsTrimmed (current_of new) (of_disk.seen after) (of_disk.may_leave after)
    current_trimmed trimmed = rw same (other_trimmed of_disk (file_of (other_of new)) (current_of old) before after
        (rw (← same) current_from) keeps.others counts trimmed)

    empties : {T : Type 0} (result : Result T LogRefusal)
        → Empties of_disk (other_of old) (other_of new) before after result
        → EmptiesOther of_disk old new before after result
    empties result led kept more represents up =
        let at = file_of (other_of old) in
        let done = with_bodies kept at [] in
        let rest = with_bodies more at (kept at) in
        let wait : RepresentsAt of_disk before kept more (current_of new) = rw same represents.0 in
        let away : file_of (current_of new) ≢ at = λ e. current_from (e ∙ sym file) in
        let all_there = bodies_there kept at [] (file_of (current_of new)) away in
        let rest_there = bodies_there more at (kept at) (file_of (current_of new)) away in
        let leads = led (kept at) (up_holds of_disk (other_of old) before (kept at) (more at) up represents.1) in
        record {
          now = both_now result _ _ _ _
              (other_now of_disk (file_of (other_of new)) (current_of new) before after current_from keeps.others result
              kept more done more done rest all_there refl all_there rest_there counts wait)
              (called_now of_disk (other_of new) before after at file result [] [] (kept at) done more done rest
              (bodies_here kept at []) (bodies_here kept at []) (bodies_here more at (kept at)) leads.now);
          any_moment = throughout_both _ _ _ _
              (MayHaveAt (file_of (current_of new)) done rest) (MayHaveAt (file_of (other_of new)) done rest)
              (other_may of_disk (file_of (other_of new)) (current_of new) before after current_from keeps.others
              kept more done rest all_there rest_there wait)
              (called_may of_disk (other_of new) before after at file [] (kept at) done rest
              (bodies_here kept at []) (bodies_here more at (kept at)) leads.any_moment);
        }

    trims : {T : Type 0} (result : Result T LogRefusal)
        → OnOk result (TrimsFrames (other_of old) (other_of new) (of_disk.seen after) (of_disk.may_leave after))
        → OnOk result (TrimsOther old new (of_disk.seen before) (of_disk.seen after) (of_disk.may_leave before)
        (of_disk.may_leave after))
    trims (Ok v) trimmed = (trimmed, current_trimmed)
    trims (Err e) trimmed = tt

  -- the same, where it is told which logs these are
  module _ (log next rest : Log) (file : file_of next ≡ file_of log)
      (keeps : KeepsToLog of_disk next before after) where
    keeps_now : (now : Log) → now ≡ next → KeepsToLog of_disk now before after
    keeps_now now is = subst (λ l. KeepsToLog of_disk l before after) (sym is) keeps

    file_now : (was now : Log) → was ≡ log → now ≡ next → file_of now ≡ file_of was
    file_now was now old_is new_is = ap file_of new_is ∙ (file ∙ sym (ap file_of old_is))

    pub adds_to : current_of old ≡ log → current_of new ≡ next → other_of old ≡ rest → other_of new ≡ rest
        → {T : Type 0} (body : List ℕ) (result : Result T LogRefusal) → Adds of_disk body log next before after result
        → AddsToCurrent of_disk body old new before after result
    adds_to was now waited waits body result led =
        adds (waits ∙ sym waited) (file_now (current_of old) (current_of new) was now) (keeps_now (current_of new) now)
        body result (subst (λ l. Adds of_disk body l (current_of new) before after result) (sym was)
        (subst (λ l. Adds of_disk body log l before after result) (sym now) led))

    pub empties_at : other_of old ≡ log → other_of new ≡ next → current_of old ≡ rest → current_of new ≡ rest
        → {T : Type 0} (result : Result T LogRefusal) → Empties of_disk log next before after result
        → EmptiesOther of_disk old new before after result
    empties_at was now waited waits result led =
        empties (waits ∙ sym waited) (file_now (other_of old) (other_of new) was now) (keeps_now (other_of new) now)
        result (subst (λ l. Empties of_disk l (other_of new) before after result) (sym was)
        (subst (λ l. Empties of_disk log l before after result) (sym now) led))

    pub trims_at : other_of old ≡ log → other_of new ≡ next → current_of old ≡ rest → current_of new ≡ rest
        → {T : Type 0} (result : Result T LogRefusal)
        → OnOk result (TrimsFrames log next (of_disk.seen after) (of_disk.may_leave after))
        → OnOk result (TrimsOther old new (of_disk.seen before) (of_disk.seen after) (of_disk.may_leave before)
        (of_disk.may_leave after))
    trims_at was now waited waits result trimmed =
        trims (waits ∙ sym waited) (file_now (other_of old) (other_of new) was now) (keeps_now (other_of new) now)
        result (subst (λ l. OnOk result (TrimsFrames l (other_of new) (of_disk.seen after) (of_disk.may_leave after)))
        (sym was) (subst (λ l. OnOk result (TrimsFrames log l (of_disk.seen after) (of_disk.may_leave after)))
        (sym now) trimmed))
