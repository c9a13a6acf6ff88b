-- A change of one log that is synced: what is read, and what a crash may leave at any moment.
use Rattle.std.proofs.Common.{◌≤◌, ◌∙◌, refl, ℕ, List, length, Option, Some, None, IsSome, IfSome}
use Rattle.disk_model.specs.Changes.{Any, OnlyAt, Becomes}
use Rattle.disk_model.specs.Logs.{Image, CrashImages, Follows, Settled}
use Rattle.disk_model.specs.Moments.{Throughout}
use Rattle.disk_model.specs.Stretches.{Changed, SparesOthers}
use Rattle.disk_model.specs.declared.disk.Disk
use Rattle.frame_log.proofs.Stretches.{throughout_weaker, throughout_then}

abbrev pub Change : Type 1
Change = List ℕ → List ℕ → Type 0

-- an image that differs at this log alone from one that was possible
abbrev pub OneLog : ℕ → CrashImages → CrashImages
OneLog file old c = (d : Image) × old d × OnlyAt {A = List ℕ} file Any d c

pub becomes_any : (file : ℕ) (change : Change) (old new : Option Image) → Becomes (OnlyAt file change) old new →
    Becomes (OnlyAt file Any) old new
becomes_any file change None new is = is
becomes_any file change (Some image) None is = is
becomes_any file change (Some image) (Some other) is = record { here = tt; others = is.others }

pub becomes_any_then : (file : ℕ) (old mid new : Option Image) → Becomes (OnlyAt file Any) old mid → Becomes
    (OnlyAt file Any) mid new → Becomes (OnlyAt file Any) old new
becomes_any_then file None None new is next = next
becomes_any_then file None (Some b) new is next = absurd (cc)
becomes_any_then file (Some a) None new is next = absurd is
becomes_any_then file (Some a) (Some b) None is next = next
becomes_any_then file (Some a) (Some b) (Some c) is next = record
    { here = tt; others = λ other apart. next.others other apart ∙ is.others other apart }

pub told_after : (file : ℕ) (change : Change) (old new : Option Image) → Becomes (OnlyAt file change) old new →
    IsSome old → IsSome new
told_after file change None new is told = absurd (cc)
told_after file change (Some a) None is told = absurd is
told_after file change (Some a) (Some b) is told = refl

-- what a change makes of a log
pub becomes_so : (file : ℕ) (change : Change) (P Q : List ℕ → Type 0) (old new : Option Image) →
    ((a b : List ℕ) → change a b → P a → Q b)
    → Becomes (OnlyAt file change) old new → IfSome old (λ image. P (image file)) → IfSome new (λ image. Q (image file))
becomes_so file change P Q None None makes is has = tt
becomes_so file change P Q None (Some b) makes is has = absurd (cc)
becomes_so file change P Q (Some a) None makes is has = absurd is
becomes_so file change P Q (Some a) (Some b) makes is has = makes (a file) (b file) is.here has

pub reaches : (file m n : ℕ) (change : Change) (old new : Option Image) →
    ((a b : List ℕ) → change a b → m ≤ length a → n ≤ length b)
    → Becomes (OnlyAt file change) old new → IfSome old (λ image. m ≤ length (image file)) → IfSome new
    (λ image. n ≤ length (image file))
reaches file m n change old new keeps is long = becomes_so file change (λ a. m ≤ length a) (λ b. n ≤ length b) old
    new keeps is long

module _ (file : ℕ) (change : Change) (old mid : CrashImages) (follows : Follows (OnlyAt file change) old mid) where
  pub one_log : (c : Image) → mid c → OneLog file old c
  one_log c left = let (d, was, at) = follows c left in (d, was, record { here = tt; others = at.others })

  pub one_change : (c : Image) → mid c → Changed old file change c
  one_change c left = let (d, was, at) = follows c left in (d, was, at.here)

  -- a sync that is done keeps the other logs
  pub one_log_more : (new : CrashImages) → Follows (OnlyAt file Any) mid new → (c : Image) → new c → OneLog file old c
  one_log_more new more c left =
      let (d, was, at) = more c left in
      let (e, before, first) = one_log d was in
      (e, before, record { here = tt; others = λ other apart. at.others other apart ∙ first.others other apart })

pub one_log_same : (file : ℕ) (old : CrashImages) (c : Image) → old c → OneLog file old c
one_log_same file old c was = (c, was, record { here = tt; others = λ other apart. refl })

-- where a sync is done, each image has the change as it was done
pub settled_change : (file : ℕ) (done may : Change) (seen after : Option Image) (old new : CrashImages) → IsSome seen →
    IfSome seen old
    → Becomes (OnlyAt file done) seen after → Settled file after new → ((a b : List ℕ) → done a b → may a b)
    → (c : Image) → new c → Changed old file may c
settled_change file done may None after old new told reads is settled lets c left = absurd (cc)
settled_change file done may (Some image) None old new told reads is settled lets c left = absurd is
settled_change file done may (Some image) (Some then) old new told reads is settled lets c left =
    (image, reads, rw (settled c left) (lets (image file) (then file) is.here))

-- nothing but one log changed, over two stretches
pub spares_more : {D : Type 0} (of_disk : Disk.Ghosts D)
    (file : ℕ) (old mid new : D) → ((t : ℕ) (c : Image) → t ≤ of_disk.moment mid → of_disk.may_leave mid c
    → of_disk.left_since mid t c)
    → SparesOthers of_disk file old mid → SparesOthers of_disk file
    mid new
    → SparesOthers of_disk file old new
spares_more of_disk file old mid new counts first second = record {
  reads = becomes_any_then file (of_disk.seen old) (of_disk.seen mid) (of_disk.seen new) first.reads second.reads;
  images = throughout_then _ _ _ _ _ _ _ first.images (throughout_weaker _ _ _ _ (OneLog file (of_disk.may_leave mid))
      (OneLog file (of_disk.may_leave old)) second.images (λ c from.
      let (d, was, at) = from in
      let (e, before, then) = first.images.each d (counts (of_disk.moment old) d first.images.later was) in
      (e, before, record { here = tt; others = λ other apart. at.others other apart ∙ then.others other apart })));
}

-- each image that is a change of one that has A has B
pub each_changed : (before now : ℕ) (past since : ℕ → CrashImages) (old : CrashImages) (file : ℕ) (change : Change)
    (A B : List ℕ → Type 0)
    → Throughout before now past since (Changed old file change) → ((d : Image) → old d → A (d file))
    → ((a b : List ℕ) → A a → change a b → B b) → Throughout before now past since (λ c. B (c file))
each_changed before now past since old file change A B all has makes = throughout_weaker before now past since
    (Changed old file change) (λ c. B (c file)) all
    (λ c from. let (d, was, is) = from in makes (d file) (c file) (has d was) is)
