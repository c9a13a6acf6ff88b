-- Two neighbouring logs that change, and the others that don't.
use Rattle.std.proofs.Common.{◌≡◌, ◌≢◌, ◌⊎◌, inl, inr, ◌≤◌, ◌+◌, ◌∙◌, refl, sym, ap, subst, ℕ, List, length, Option, Some, None, IsSome, IfSome}
use Rattle.disk_model.specs.Changes.{Any, OnlyAt, Becomes}
use Rattle.disk_model.specs.Logs.{Image, CrashImages}
use Rattle.disk_model.specs.Stretches.{OnlyThis, Since, SparesOthers}
use Rattle.disk_model.specs.declared.disk.Disk
use Rattle.frame_log.specs.LogStates.{file_of, IsTrimmed, IsWithin, Leaves}
use Rattle.frame_log.specs.declared.log.Log.{Log}
use Rattle.frame_log.proofs.Stretches.{throughout_then, throughout_weaker}
use Rattle.log_pair.specs.Bodies.{Bodies}
use Rattle.log_pair.specs.PairStates.{LeavesAt, RepresentsAt}
use Rattle.log_pair.specs.Sparing.{IsApart, OnlyTwo, OnlyThese, SparesOtherPairs}

-- a log of the two
abbrev pub IsOneOf : ℕ → ℕ → Type 0
IsOneOf first file = (file ≡ first) ⊎ (file ≡ first + 1)

not_apart : (first file other : ℕ) → IsOneOf first file → IsApart first other → other ≢ file
not_apart first file other (inl is) (this, next) same = this (same ∙ is)
not_apart first file other (inr is) (this, next) same = next (same ∙ is)

only_two : (first file : ℕ) (old new : Image) → IsOneOf first file → OnlyAt file Any old new → OnlyTwo first old new
only_two first file old new one only = record {
  others = λ other apart. only.others other (not_apart first file other one apart);
}

becomes_two : (first file : ℕ) (old new : Option Image) → IsOneOf first file → Becomes (OnlyAt file Any) old new
    → Becomes (OnlyTwo first) old new
becomes_two first file None new one is = is
becomes_two first file (Some a) None one is = absurd is
becomes_two first file (Some a) (Some b) one is = only_two first file a b one is

two_then : (first : ℕ) (a b c : Image) → OnlyTwo first a b → OnlyTwo first b c → OnlyTwo first a c
two_then first a b c one next = record { others = λ other apart. next.others other apart ∙ one.others other apart }

becomes_then : (first : ℕ) (old mid new : Option Image) → Becomes (OnlyTwo first) old mid
    → Becomes (OnlyTwo first) mid new → Becomes (OnlyTwo first) old new
becomes_then first None None new is next = next
becomes_then first None (Some b) new is next = absurd (cc)
becomes_then first (Some a) None new is next = absurd is
becomes_then first (Some a) (Some b) None is next = next
becomes_then first (Some a) (Some b) (Some c) is next = two_then first a b c is next

told_two : (first : ℕ) (old new : Option Image) → Becomes (OnlyTwo first) old new → IsSome old → IsSome new
told_two first None new is told = absurd (cc)
told_two first (Some a) None is told = absurd is
told_two first (Some a) (Some b) is told = refl

-- what a read gives of another log
becomes_apart : (P : List ℕ → Type 0) (first other : ℕ) (old new : Option Image) → IsApart first other
    → Becomes (OnlyTwo first) old new
    → IfSome old (λ image. P (image other)) → IfSome new (λ image. P (image other))
becomes_apart P first other None None apart is has = tt
becomes_apart P first other None (Some b) apart is has = absurd (cc)
becomes_apart P first other (Some a) None apart is has = absurd is
becomes_apart P first other (Some a) (Some b) apart is has = subst P (sym (is.others other apart)) has

-- what each image has of another log
apart_has : (P : List ℕ → Type 0) (old : CrashImages) (first other : ℕ) → IsApart first other
    → ((d : Image) → old d → P (d other)) → (c : Image) → OnlyThese old first c → P (c other)
apart_has P old first other apart has c (d, was, only) = subst P (sym (only.others other apart)) (has d was)

trimmed_when : (first : ℕ) (log : Log) (seen after : Option Image) (old new : CrashImages)
    → IsApart first (file_of log) → Becomes (OnlyTwo first) seen after
    → ((c : Image) → new c → OnlyThese old first c) → IsTrimmed log seen old → IsTrimmed log after new
trimmed_when first log None None old new apart becomes only is = tt
trimmed_when first log None (Some b) old new apart becomes only is = absurd (cc)
trimmed_when first log (Some a) None old new apart becomes only is = tt
trimmed_when first log (Some a) (Some b) old new apart becomes only is =
    λ c left. let (d, was, at) = only c left in ap length (at.others (file_of log) apart) ∙ is d was

module _ {D : Type 0} (of_disk : Disk.Ghosts D) where
  -- what a crash may leave now, it might have left since then
  abbrev pub CountsNow : D → Type 0
  CountsNow disk = (t : ℕ) (c : Image) → t ≤ of_disk.moment disk → of_disk.may_leave disk c
      → of_disk.left_since disk t c

  -- where one log of the two changed alone, no other did
  pub spares_two : (first file : ℕ) (old new : D) → IsOneOf first file → SparesOthers of_disk file old new
      → SparesOtherPairs of_disk first old new
  spares_two first file old new one spares = record {
    reads = becomes_two first file (of_disk.seen old) (of_disk.seen new) one spares.reads;
    images = throughout_weaker _ _ _ _ (OnlyThis (of_disk.may_leave old) file) (OnlyThese (of_disk.may_leave old) first)
        spares.images (λ c from. let (d, was, only) = from in (d, was, only_two first file d c one only));
  }

  pub spares_then : (first : ℕ) (old mid new : D) → CountsNow mid → SparesOtherPairs of_disk first old mid
      → SparesOtherPairs of_disk first mid new → SparesOtherPairs of_disk first old new
  spares_then first old mid new counts one next = record {
    reads = becomes_then first (of_disk.seen old) (of_disk.seen mid) (of_disk.seen new) one.reads next.reads;
    images = throughout_then _ _ _ _ _ _ _ one.images (throughout_weaker _ _ _ _
        (OnlyThese (of_disk.may_leave mid) first) (OnlyThese (of_disk.may_leave old) first) next.images (λ c from.
        let (d, was, at) = from in
        let (e, before, then) = one.images.each d (counts (of_disk.moment old) d one.images.later was) in
        (e, before, two_then first e d c then at)));
  }

  module _ (first : ℕ) (log : Log) (old new : D) (apart : IsApart first (file_of log))
      (spares : SparesOtherPairs of_disk first old new) where
    pub apart_within : IsWithin log (of_disk.seen old) → IsWithin log (of_disk.seen new)
    apart_within within = becomes_apart (λ bytes. log.end + 1 ≤ length bytes) first (file_of log) (of_disk.seen old)
        (of_disk.seen new) apart spares.reads within

    pub apart_represents : (kept more : Bodies) → CountsNow new → RepresentsAt of_disk old kept more log
        → RepresentsAt of_disk new kept more log
    apart_represents kept more counts represents = record {
      told = told_two first (of_disk.seen old) (of_disk.seen new) spares.reads represents.told;
      at_end = represents.at_end;
      images = λ c left. apart_has (Leaves log.state (kept (file_of log)) (more (file_of log)))
          (of_disk.may_leave old) first (file_of log) apart represents.images c
          (spares.images.each c (counts (of_disk.moment old) c spares.images.later left));
    }

    pub apart_trimmed : CountsNow new → IsTrimmed log (of_disk.seen old) (of_disk.may_leave old)
        → IsTrimmed log (of_disk.seen new) (of_disk.may_leave new)
    apart_trimmed counts trimmed = trimmed_when first log (of_disk.seen old) (of_disk.seen new) (of_disk.may_leave old)
        (of_disk.may_leave new) apart spares.reads
        (λ c left. spares.images.each c (counts (of_disk.moment old) c spares.images.later left)) trimmed

    pub apart_left : (kept more : Bodies) → RepresentsAt of_disk old kept more log
        → Since of_disk old new (λ c. LeavesAt kept more c log)
    apart_left kept more represents = throughout_weaker _ _ _ _ (OnlyThese (of_disk.may_leave old) first)
        (λ c. LeavesAt kept more c log) spares.images
        (apart_has (Leaves log.state (kept (file_of log)) (more (file_of log))) (of_disk.may_leave old) first
        (file_of log) apart represents.images)
