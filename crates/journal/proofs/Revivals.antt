-- What a revive of both pairs leads to.
use Rattle.std.proofs.Common.{◌≡◌, inl, inr, ◌≤◌, refl, sym, subst, ◌-◌, ℕ, None, Result, Ok, Err, arith}
use Rattle.disk_model.specs.Causes.{Rose}
use Rattle.disk_model.specs.declared.disk.Disk
use Rattle.directory_meaning.specs.Bodies.{Bodies, MayHaveBodies}
use Rattle.directory_meaning.specs.Laws.{no_bodies}
use Rattle.frame_log.specs.LogStates.{file_of}
use Rattle.frame_log.specs.declared.refusal.LogRefusal.{LogRefusal}
use Rattle.frame_log.specs.declared.refusal.LogRefusal.TheVariants.{Down, Long, Fault}
use Rattle.frame_log.proofs.Steps.{holds_more}
use Rattle.frame_log.proofs.Stretches.{throughout_then}
use Rattle.journal.specs.Calls.{Returns, ReviveRefused, Revives}
use Rattle.journal.specs.JournalStates.{AreUp, LogsRepresent}
use Rattle.journal.specs.declared.journal.Journal.{Journal}
use Rattle.log_pair.specs.Calls.{BringsBoth, PairLeads, PairReviveAnswers, PairReviveRefused}
use Rattle.log_pair.specs.PairStates as pair
use Rattle.log_pair.specs.PairStates.{current_of, other_of, HasDown, PairRepresents}
use Rattle.log_pair.specs.Sparing.{KeepsToPair}
use Rattle.log_pair.specs.declared.pair.LogPair.{LogPair}
use Rattle.log_pair.proofs.OneOfTwo.{up_holds}
use Rattle.log_pair.proofs.Two.{CountsNow}
use Rattle.journal.proofs.Pairs.{alike, all_left, both_lead, by_result, entries_apart, roots_apart, spared_leads, spared_may, spared_now}

not_up : (one : LogPair) → HasDown one → pair.AreUp one → ⊥
not_up one (inl down) up = down up.0
not_up one (inr down) up = down up.1

keeps_then : {D : Type 0} (faults : D → ℕ) (before mid after : D) → faults before ≤ faults mid
    → Rose (faults mid) (faults after) → Rose (faults before) (faults after)
keeps_then faults before mid after later rose = omega (arith, later, rose)

module _ {D : Type 0} (of_disk : Disk.Ghosts D) where
  -- a pair that isn't down may leave no more than it keeps
  up_represents : (one : LogPair) (disk : D) (kept more rest : Bodies) → pair.AreUp one
      → PairRepresents of_disk one disk kept more → PairRepresents of_disk one disk kept rest
  up_represents one disk kept more rest up represents = (
    holds_more of_disk (current_of one) disk (kept (file_of (current_of one))) (rest (file_of (current_of one)))
        (up_holds of_disk (current_of one) disk (kept (file_of (current_of one))) (more (file_of (current_of one)))
        up.0 represents.0),
    holds_more of_disk (other_of one) disk (kept (file_of (other_of one))) (rest (file_of (other_of one)))
        (up_holds of_disk (other_of one) disk (kept (file_of (other_of one))) (more (file_of (other_of one)))
        up.1 represents.1),
  )

  -- the journals weren't brought back
  module _ (old new : Journal) (before after : D) (counts : CountsNow of_disk after)
      (keeps : KeepsToPair of_disk new.entries before after) (roots : new.roots ≡ old.roots) where
    refused_first : (e : LogRefusal) → new.broken_off ≡ old.broken_off
        → PairReviveRefused of_disk.faults old.entries new.entries before after e
        → ReviveRefused of_disk old new before after e
    refused_first Down broken refused = refused
    refused_first (Long end) broken refused = refused
    refused_first Fault broken (down, rose) = ((λ up. not_up new.entries down up.0), broken, rose)

    module _ {T : Type 0} where
      returns_first : (e : LogRefusal)
          → BringsBoth of_disk {T = T} old.entries new.entries before after (Err e)
          → (kept more : Bodies) → LogsRepresent of_disk old before kept more
          → Returns of_disk {T = T} new before after kept more (Err e)
      returns_first e brings kept more represents =
          let was = subst (λ r. PairRepresents of_disk r before kept more) (sym roots) represents.1 in
          let apart = roots_apart new.entries new.roots new.journals new.root_logs in
          let here = brings kept more represents.0 in
          let there : PairLeads of_disk {T = T} new.roots before after (Err e) kept more kept more =
          spared_leads of_disk new.entries new.roots before after counts apart keeps.others kept more was (Err e)
          kept more
          kept more (alike new.roots kept) (alike new.roots more) (alike new.roots kept) (alike new.roots more) in
          let this : PairLeads of_disk {T = T} new.entries before after (Err e) kept more kept more =
          record { now = here.now; any_moment = here.any_moment } in
          record {
            now = (this.now, there.now);
            any_moment = all_left of_disk new.entries new.roots new.journals new.root_logs before after (Err e) kept
                more
                kept more this there;
          }

      pub revives_first : (e : LogRefusal)
          → PairReviveAnswers of_disk.faults old.entries new.entries before after {T = T} (Err e)
          → BringsBoth of_disk {T = T} old.entries new.entries before after (Err e)
          → new.frozen ≡ old.frozen → new.broken_off ≡ old.broken_off
          → Revives of_disk {T = T} old new before after (Err e)
      revives_first e answers brings frozen broken = record {
        answer = refused_first e broken answers.answer;
        later = answers.later;
        frames = λ kept more represents. returns_first e brings kept more represents;
        current = answers.current;
        other = answers.other;
        root = rw roots (refl, refl);
        other_root = rw roots (refl, refl);
        frozen = frozen;
      }

  -- they were, and the root logs were tried
  module _ (old new : Journal) (before mid after : D) (counts_mid : CountsNow of_disk mid)
      (counts : CountsNow of_disk after) (keeps : KeepsToPair of_disk new.entries before mid)
      (keeps_next : KeepsToPair of_disk new.roots mid after) where
    returns_both : {T : Type 0} (v : T) (result : Result T LogRefusal) → pair.AreUp new.entries
        → BringsBoth of_disk {T = T} old.entries new.entries before mid (Ok v)
        → BringsBoth of_disk old.roots new.roots mid after result
        → (kept more : Bodies) → LogsRepresent of_disk old before kept more
        → Returns of_disk new before after kept more result
    returns_both v result up one two kept more represents =
        let apart = roots_apart new.entries old.roots new.journals old.root_logs in
        let apart_next = entries_apart new.entries new.roots new.journals new.root_logs in
        let first = one kept more represents.0 in
        let wait = spared_now of_disk new.entries old.roots before mid counts_mid apart keeps.others kept more
        represents.1 in
        let second = two kept more wait in
        let held : (rest : Bodies) → PairRepresents of_disk new.entries mid kept rest =
        λ rest. up_represents new.entries mid kept no_bodies rest up first.now in
        let this : PairLeads of_disk {T = Bodies} new.entries before mid (Err Fault) kept more kept more =
        record { now = held more; any_moment = first.any_moment } in
        let that : PairLeads of_disk {T = Bodies} old.roots before mid (Err Fault) kept more kept more =
        spared_leads of_disk new.entries old.roots before mid counts_mid apart keeps.others kept more represents.1
        (Err Fault) kept more kept more (alike old.roots kept) (alike old.roots more) (alike old.roots kept)
        (alike old.roots more) in
        let stays : PairLeads of_disk new.entries mid after result kept no_bodies kept more = record {
          now = by_result result _ _
              (spared_now of_disk new.roots new.entries mid after counts apart_next keeps_next.others kept no_bodies
              (held no_bodies))
              (spared_now of_disk new.roots new.entries mid after counts apart_next keeps_next.others kept more
              (held more));
          any_moment = spared_may of_disk new.roots new.entries mid after counts apart_next keeps_next.others kept more
              (held more) kept more (alike new.entries kept) (alike new.entries more);
        } in
        record {
          now = both_lead of_disk new.entries new.roots new.journals new.root_logs mid after result kept no_bodies kept
              more stays second;
          any_moment = throughout_then _ _ _ _ _ _ (MayHaveBodies kept more)
              (all_left of_disk new.entries old.roots new.journals old.root_logs before mid (Err Fault) kept
              more kept more this that)
              (all_left of_disk new.entries new.roots new.journals new.root_logs mid after result kept no_bodies kept
              more stays second);
        }

    refused_next : (e : LogRefusal) → of_disk.faults before ≤ of_disk.faults mid → new.broken_off ≡ old.broken_off
        → PairReviveRefused of_disk.faults old.roots new.roots mid after e
        → ReviveRefused of_disk old new before after e
    refused_next Down later broken refused = refused
    refused_next (Long end) later broken refused = refused
    refused_next Fault later broken (down, rose) =
        ((λ up. not_up new.roots down up.1), broken, keeps_then of_disk.faults before mid after later rose)

    module _ {T : Type 0} (v : T)
        (answers : PairReviveAnswers of_disk.faults old.entries new.entries before mid {T = T} (Ok v))
        (one : BringsBoth of_disk {T = T} old.entries new.entries before mid (Ok v))
        (frozen : new.frozen ≡ old.frozen) where
      pub revives_not : (e : LogRefusal)
          → PairReviveAnswers of_disk.faults old.roots new.roots mid after {T = T} (Err e)
          → BringsBoth of_disk {T = T} old.roots new.roots mid after (Err e)
          → new.broken_off ≡ old.broken_off → Revives of_disk {T = T} old new before after (Err e)
      revives_not e next two broken = record {
        answer = refused_next e answers.later broken next.answer;
        later = omega (arith, answers.later, next.later);
        frames = λ kept more represents. returns_both v (Err e) answers.answer one two kept more represents;
        current = answers.current;
        other = answers.other;
        root = next.current;
        other_root = next.other;
        frozen = frozen;
      }

      pub revives_all : (w : T)
          → PairReviveAnswers of_disk.faults old.roots new.roots mid after {T = T} (Ok w)
          → BringsBoth of_disk {T = T} old.roots new.roots mid after (Ok w)
          → new.broken_off ≡ None → Revives of_disk {T = T} old new before after (Ok w)
      revives_all w next two whole = record {
        answer = ((answers.answer, next.answer), whole);
        later = omega (arith, answers.later, next.later);
        frames = λ kept more represents. returns_both v (Ok w) answers.answer one two kept more represents;
        current = answers.current;
        other = answers.other;
        root = next.current;
        other_root = next.other;
        frozen = frozen;
      }
