-- A revive of the pair's first log, and then of its second one.
use Rattle.std.proofs.Common.{◌≡◌, ◌≢◌, inl, inr, ◌∙◌, refl, sym, subst, Result, Ok, Err, MatchResult, OnOk, arith}
use Rattle.disk_model.specs.Stretches.{Since}
use Rattle.disk_model.specs.declared.disk.Disk
use Rattle.frame_log.specs.Calls.{BringsBack}
use Rattle.frame_log.specs.LogStates.{file_of, IsTrimmed, IsWithin, KeepsToLog}
use Rattle.frame_log.specs.declared.log.Log.{Log}
use Rattle.frame_log.specs.declared.refusal.LogRefusal.{LogRefusal}
use Rattle.frame_log.proofs.Steps.{holds_more}
use Rattle.frame_log.proofs.Stretches.{throughout_both, throughout_then, throughout_weaker}
use Rattle.log_pair.specs.Bodies.{Bodies, MayHaveAt, no_bodies}
use Rattle.log_pair.specs.Calls.{BringsBoth}
use Rattle.log_pair.specs.PairStates.{chosen, first_of, AreTrimmed, Both, PairMayHave, PairRepresents, RepresentsAt}
use Rattle.log_pair.specs.Sparing.{KeepsToPair}
use Rattle.log_pair.specs.declared.current.Current.{Current}
use Rattle.log_pair.specs.declared.current.Current.TheVariants.{First, Second}
use Rattle.log_pair.specs.declared.pair.LogPair.{LogPair}
use Rattle.log_pair.proofs.Two.{CountsNow, spares_two, spares_then}
use Rattle.log_pair.proofs.OneOfTwo.{at_file, by_result, called_now, called_may, other_within, other_trimmed, other_stays, other_may}

-- what the first log and the second one have, the current log and the other one have
both_chosen : (Has : Log → Type 0) (current : Current) (first second : Log) → Has first → Has second
    → Has (chosen current first second) × Has (chosen current second first)
both_chosen Has First first second one two = (one, two)
both_chosen Has Second first second one two = (two, one)

each_chosen : (Has : Log → Type 0) (current : Current) (first second : Log)
    → Has (chosen current first second) × Has (chosen current second first) → Has first × Has second
each_chosen Has First first second both = both
each_chosen Has Second first second both = (both.1, both.0)

both_of : (Has : Log → Type 0) (pair : LogPair) → Has pair.first → Has pair.second → Both Has pair
both_of Has pair = both_chosen Has pair.current pair.first pair.second

each_of : (Has : Log → Type 0) (pair : LogPair) → Both Has pair → Has pair.first × Has pair.second
each_of Has pair = each_chosen Has pair.current pair.first pair.second

second_apart : (pair : LogPair) → file_of pair.second ≢ file_of pair.first
second_apart pair same = omega (arith, pair.neighbours, same)

module _ {D : Type 0} (of_disk : Disk.Ghosts D) where
  -- a fact of both logs, by the result
  now_both : {T : Type 0} (result : Result T LogRefusal) (pair : LogPair) (disk : D) (all besides held rest : Bodies)
      → MatchResult result (λ _. RepresentsAt of_disk disk all besides pair.first)
      (λ _. RepresentsAt of_disk disk held rest pair.first)
      → MatchResult result (λ _. RepresentsAt of_disk disk all besides pair.second)
      (λ _. RepresentsAt of_disk disk held rest pair.second)
      → MatchResult result (λ _. PairRepresents of_disk pair disk all besides)
      (λ _. PairRepresents of_disk pair disk held rest)
  now_both (Ok v) pair disk all besides held rest one two =
      both_of (RepresentsAt of_disk disk all besides) pair one two
  now_both (Err e) pair disk all besides held rest one two = both_of (RepresentsAt of_disk disk held rest) pair one two

  -- both logs may have what each may
  both_may : (pair : LogPair) (before after : D) (kept more : Bodies)
      → Since of_disk before after (MayHaveAt (file_of pair.first) kept more)
      → Since of_disk before after (MayHaveAt (file_of pair.second) kept more)
      → Since of_disk before after (PairMayHave pair kept more)
  both_may pair before after kept more one two = throughout_weaker _ _ _ _
      (λ c. MayHaveAt (file_of pair.first) kept more c × MayHaveAt (file_of pair.second) kept more c)
      (PairMayHave pair kept more)
      (throughout_both _ _ _ _ (MayHaveAt (file_of pair.first) kept more) (MayHaveAt (file_of pair.second) kept more)
      one two) (λ c has. both_of (λ log. MayHaveAt (file_of log) kept more c) pair has.0 has.1)

module _ {D : Type 0} (of_disk : Disk.Ghosts D) (old new : LogPair) (before mid : D) (counts : CountsNow of_disk mid)
    (file : file_of new.first ≡ file_of old.first) (keeps : KeepsToLog of_disk new.first before mid) where
  apart_from : file_of old.second ≢ file_of new.first
  apart_from same = second_apart old (same ∙ file)

  -- the first revive failed
  pub fails_first : {T S : Type 0} (e error : LogRefusal) (result : Result T LogRefusal) → result ≡ Err error
      → new.second ≡ old.second → BringsBack of_disk {T = S} old.first new.first before mid (Err e)
      → BringsBoth of_disk old new before mid result
  fails_first e error result is same brings kept more represents =
      let was = each_of (RepresentsAt of_disk before kept more) old represents in
      let at = file_of old.first in
      let wait : RepresentsAt of_disk before kept more new.second =
      subst (RepresentsAt of_disk before kept more) (sym same) was.1 in
      let leads = brings (kept at) (more at) was.0 in
      record {
        now = rw is (both_of (RepresentsAt of_disk mid kept more) new
            (at_file of_disk new.first mid at file kept more leads.now)
            (other_stays of_disk (file_of new.first) new.second before mid (second_apart new) keeps.others
            kept more kept more refl refl counts wait));
        any_moment = both_may of_disk new before mid kept more
            (called_may of_disk new.first before mid at file (kept at) (more at) kept more refl refl leads.any_moment)
            (other_may of_disk (file_of new.first) new.second before mid (second_apart new) keeps.others
            kept more kept more refl refl wait);
      }

  -- it is done, and the second one is tried
  module _ (after : D) (later : CountsNow of_disk after) (next : file_of new.second ≡ file_of old.second)
      (keeps_next : KeepsToLog of_disk new.second mid after) where
    back_apart : file_of new.first ≢ file_of new.second
    back_apart same = second_apart new (sym same)

    pub keeps_both : KeepsToPair of_disk new before after
    keeps_both = record {
      others = spares_then of_disk (first_of new) before mid after counts
          (spares_two of_disk (first_of new) (file_of new.first) before mid (inl refl) keeps.others)
          (spares_two of_disk (first_of new) (file_of new.second) mid after (inr new.neighbours) keeps_next.others);
      within = both_of (λ log. IsWithin log (of_disk.seen after)) new
          (other_within of_disk (file_of new.second) new.first mid after back_apart keeps_next.others keeps.within)
          keeps_next.within;
    }

    pub trims_both : {T : Type 0} (result : Result T LogRefusal)
        → IsTrimmed new.first (of_disk.seen mid) (of_disk.may_leave mid)
        → OnOk result (IsTrimmed new.second (of_disk.seen after) (of_disk.may_leave after))
        → OnOk result (AreTrimmed new (of_disk.seen after) (of_disk.may_leave after))
    trims_both (Ok v) one two = both_of (λ log. IsTrimmed log (of_disk.seen after) (of_disk.may_leave after)) new
        (other_trimmed of_disk (file_of new.second) new.first mid after back_apart keeps_next.others later one) two
    trims_both (Err e) one two = tt

    pub brings_both : {T : Type 0} (v : T) (result : Result T LogRefusal)
        → BringsBack of_disk {T = T} old.first new.first before mid (Ok v)
        → BringsBack of_disk old.second new.second mid after result
        → BringsBoth of_disk old new before after result
    brings_both v result one two kept more represents =
        let was = each_of (RepresentsAt of_disk before kept more) old represents in
        let at = file_of old.first in
        let to = file_of old.second in
        let first = one (kept at) (more at) was.0 in
        let wait = other_stays of_disk (file_of new.first) old.second before mid apart_from keeps.others
        kept more kept more refl refl counts was.1 in
        let second = two (kept to) (more to) wait in
        let done : (rest : Bodies) → RepresentsAt of_disk mid kept rest new.first =
        λ rest. at_file of_disk new.first mid at file kept rest
        (holds_more of_disk new.first mid (kept at) (rest at) first.now) in
        let stays : (rest : Bodies) → RepresentsAt of_disk after kept rest new.first =
        λ rest. other_stays of_disk (file_of new.second) new.first mid after back_apart keeps_next.others
        kept rest kept rest refl refl later (done rest) in
        let may : Since of_disk before mid (MayHaveAt (file_of new.second) kept more) =
        subst (λ n. Since of_disk before mid (MayHaveAt n kept more)) (sym next)
        (other_may of_disk (file_of new.first) old.second before mid apart_from keeps.others kept more kept more
        refl refl was.1) in
        record {
          now = now_both of_disk result new after kept no_bodies kept more
              (by_result result _ _ (stays no_bodies) (stays more))
              (called_now of_disk new.second mid after to next result (kept to) (kept to) (more to)
              kept no_bodies kept more refl refl refl second.now);
          any_moment = throughout_then _ _ _ _ _ _ (PairMayHave new kept more)
              (both_may of_disk new before mid kept more
              (called_may of_disk new.first before mid at file (kept at) (more at) kept more refl refl
              first.any_moment) may)
              (both_may of_disk new mid after kept more
              (other_may of_disk (file_of new.second) new.first mid after back_apart keeps_next.others kept more
              kept more refl refl (done more))
              (called_may of_disk new.second mid after to next (kept to) (more to) kept more refl refl
              second.any_moment));
        }
