-- What a reset of the journal that isn't current leads to.
use Rattle.std.proofs.Common.{◌≡◌, ◌⊎◌, inr, ⊎_elim, ◌+◌, ◌∙◌, refl, sym, subst, ℕ, [], Some, Result, Ok, Err, MatchResult}
use Rattle.std.proofs.lemmas.Bool.{cases_eq}
use Rattle.disk_model.specs.Stretches.{Since}
use Rattle.disk_model.specs.declared.disk.Disk
use Rattle.directory_meaning.specs.Bodies.{Bodies, MayHaveBodies}
use Rattle.directory_meaning.specs.Laws.{no_bodies}
use Rattle.frame_log.specs.Calls.{HasReset, ResetAnswers, ResetRefused}
use Rattle.frame_log.specs.LogStates.{file_of, end_of, IsTrimmed}
use Rattle.frame_log.specs.declared.log.Log.{Log}
use Rattle.frame_log.specs.declared.refusal.LogRefusal.{LogRefusal}
use Rattle.frame_log.specs.declared.refusal.LogRefusal.TheVariants.{Down, Long, Fault}
use Rattle.journal.specs.Calls.{Empties, RestartRefused, Restarts}
use Rattle.journal.specs.JournalStates.{AreTrimmed, AreUp, LogsRepresent}
use Rattle.journal.specs.declared.broken_off.BrokenOff.TheVariants.{Reset}
use Rattle.journal.specs.declared.journal.Journal.{Journal}
use Rattle.log_pair.specs.Bodies.{with_bodies}
use Rattle.log_pair.specs.Calls.{EmptiesOther, PairLeads, TrimsOther}
use Rattle.log_pair.specs.PairStates.{current_of, first_of, other_of, PairRepresents, RepresentsAt}
use Rattle.log_pair.specs.PairStates as pair
use Rattle.log_pair.specs.Sparing.{KeepsToPair}
use Rattle.log_pair.specs.declared.pair.LogPair.{LogPair}
use Rattle.log_pair.proofs.Two.{CountsNow}
use Rattle.journal.proofs.Pairs.{alike, all_left, bodies_alike, both_lead, both_turned, numbers, roots_apart, same_first, spared_leads, spared_trimmed}

module _ {D : Type 0} (of_disk : Disk.Ghosts D) (old : Journal) (mid : LogPair) (before after : D)
    (counts : CountsNow of_disk after) (keeps : KeepsToPair of_disk mid before after)
    (current : current_of mid ≡ current_of old.entries) where
  zeroth : file_of (other_of mid) ≡ file_of (other_of old.entries) → first_of mid ≡ 0
  zeroth file = same_first mid old.entries (rw current refl) file ∙ old.journals

  module _ {T : Type 0} (result : Result T LogRefusal) (up : AreUp old)
      (answers : ResetAnswers of_disk.faults (other_of old.entries) (other_of mid) before after result)
      (empties : EmptiesOther of_disk old.entries mid before after result) (kept : Bodies)
      (represents : LogsRepresent of_disk old before kept no_bodies) where
    abbrev pub file : ℕ
    file = file_of (other_of old.entries)

    first : first_of mid ≡ 0
    first = zeroth answers.file

    is : (file ≡ first_of mid) ⊎ (file ≡ first_of mid + 1)
    is = subst (λ n. (file ≡ n) ⊎ (file ≡ n + 1)) (old.journals ∙ sym first) (numbers old.entries).1

    here : PairLeads of_disk mid before after result (with_bodies kept file []) no_bodies (with_bodies kept file [])
        (with_bodies no_bodies file (kept file))
    here = empties kept no_bodies represents.0 up.0.1

    there : PairLeads of_disk old.roots before after result (with_bodies kept file []) no_bodies
        (with_bodies kept file []) (with_bodies no_bodies file (kept file))
    there = let apart = roots_apart mid old.roots first old.root_logs in
        spared_leads of_disk mid old.roots before after counts apart keeps.others kept no_bodies represents.1 result
        (with_bodies kept file []) no_bodies (with_bodies kept file []) (with_bodies no_bodies file (kept file))
        (bodies_alike mid old.roots apart file is kept []) (alike old.roots no_bodies)
        (bodies_alike mid old.roots apart file is kept [])
        (bodies_alike mid old.roots apart file is no_bodies (kept file))

    emptied_left : Since of_disk before after
        (MayHaveBodies (with_bodies kept file []) (with_bodies no_bodies file (kept file)))
    emptied_left = all_left of_disk mid old.roots first old.root_logs before after result (with_bodies kept file [])
        no_bodies (with_bodies kept file []) (with_bodies no_bodies file (kept file)) here there

    emptied_now : MatchResult result
        (λ _. PairRepresents of_disk mid after (with_bodies kept file []) no_bodies
        × PairRepresents of_disk old.roots after (with_bodies kept file []) no_bodies)
        (λ _. PairRepresents of_disk mid after (with_bodies kept file []) (with_bodies no_bodies file (kept file))
        × PairRepresents of_disk old.roots after (with_bodies kept file []) (with_bodies no_bodies file (kept file)))
    emptied_now = both_lead of_disk mid old.roots first old.root_logs before after result (with_bodies kept file [])
        no_bodies (with_bodies kept file []) (with_bodies no_bodies file (kept file)) here there

  refused : (e : LogRefusal) → AreUp old
      → ResetRefused of_disk.faults (other_of old.entries) (other_of mid) before after e
      → RestartRefused of_disk before after e
  refused Down up (down, nothing) = absurd (down up.0.1)
  refused (Long end) up never = never
  refused Fault up (was, some, at, rose) = rose

  module _ {T : Type 0} (new : Journal) (up : AreUp old) (roots : new.roots ≡ old.roots)
      (frozen : new.frozen ≡ old.frozen)
    where
      pub restarts_not : (e : LogRefusal) → new.broken_off ≡ Some Reset
          → ResetAnswers of_disk.faults (other_of old.entries) (other_of mid) before after {T = T} (Err e)
          → EmptiesOther of_disk {T = T} old.entries mid before after (Err e)
          → Restarts of_disk {T = T} old new before after (Err e)
      restarts_not e broken answers empties = record {
        answer = refused e up answers.answer;
        broken = broken;
        later = answers.later;
        frames = λ kept represents. record {
          now = tt;
          any_moment = emptied_left {T = T} (Err e) up answers empties kept represents;
        };
        roots = roots;
        frozen = frozen;
      }

      pub restarts_all : (v : T) → new.broken_off ≡ old.broken_off
          → ResetAnswers of_disk.faults (other_of old.entries) (other_of mid) before after {T = T} (Ok v)
          → EmptiesOther of_disk {T = T} old.entries mid before after (Ok v)
          → current_of new.entries ≡ other_of mid → other_of new.entries ≡ current_of mid
          → Restarts of_disk {T = T} old new before after (Ok v)
      restarts_all v broken answers empties turned turned_other = record {
        answer = (
          ((rw turned answers.answer.1, rw (turned_other, current) up.0.0), rw roots up.1),
          rw turned answers.file,
          rw turned answers.answer.2,
          turned_other ∙ current,
        );
        broken = broken;
        later = answers.later;
        frames = λ kept represents.
            let done = emptied_now {T = T} (Ok v) up answers empties kept represents in
            let at = file_of (other_of old.entries) in
            record {
              now = (
                both_turned (RepresentsAt of_disk after (with_bodies kept at []) no_bodies) mid new.entries
                    (inr (turned, turned_other)) done.0,
                subst (λ r. PairRepresents of_disk r after (with_bodies kept at []) no_bodies) (sym roots) done.1,
              );
              any_moment = emptied_left {T = T} (Ok v) up answers empties kept represents;
            };
        roots = roots;
        frozen = frozen;
      }

  other_trimmed : HasReset of_disk.faults (other_of old.entries) (other_of mid) before after
      → TrimsOther old.entries mid (of_disk.seen before) (of_disk.seen after) (of_disk.may_leave before)
      (of_disk.may_leave after)
      → IsTrimmed (other_of old.entries) (of_disk.seen before) (of_disk.may_leave before)
      → IsTrimmed (other_of mid) (of_disk.seen after) (of_disk.may_leave after)
  other_trimmed reset trims was = ⊎_elim
      (λ empty. let nothing = reset.3 empty in
      subst (λ d. IsTrimmed (other_of mid) (of_disk.seen d) (of_disk.may_leave d)) (sym nothing.1)
      (subst (λ log. IsTrimmed log (of_disk.seen before) (of_disk.may_leave before)) (sym nothing.0) was))
      (λ full. trims.0 full) (cases_eq (end_of (other_of old.entries)) 0)

  pub trims_restarted : (entries : LogPair) → HasReset of_disk.faults (other_of old.entries) (other_of mid) before after
      → file_of (other_of mid) ≡ file_of (other_of old.entries)
      → TrimsOther old.entries mid (of_disk.seen before) (of_disk.seen after) (of_disk.may_leave before)
      (of_disk.may_leave after)
      → current_of entries ≡ other_of mid → other_of entries ≡ current_of mid
      → AreTrimmed old (of_disk.seen before) (of_disk.may_leave before)
      → pair.AreTrimmed entries (of_disk.seen after) (of_disk.may_leave after)
      × pair.AreTrimmed old.roots (of_disk.seen after) (of_disk.may_leave after)
  trims_restarted entries reset at trims turned turned_other was = (
    both_turned (λ log. IsTrimmed log (of_disk.seen after) (of_disk.may_leave after)) mid entries
        (inr (turned, turned_other)) (trims.1 was.0.0, other_trimmed reset trims was.0.1),
    spared_trimmed of_disk mid old.roots before after counts
        (roots_apart mid old.roots (zeroth at) old.root_logs) keeps.others was.1,
  )
