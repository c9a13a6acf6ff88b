-- A sync of one log, and of all.
use Rattle.std.proofs.Common.{◌≡◌, ⊎_elim, ◌+◌, refl, sym, subst, ℕ, Option, Some, None, IsSome, IfSome, Result, Ok, Err, OnOk, OnErr, arith}
use Rattle.std.proofs.lemmas.Bool.{cases_eq}
use Rattle.disk_model.specs.declared.disk.Disk
use Rattle.disk_model.specs.Changes.{Any, OnlyAt}
use Rattle.disk_model.specs.Logs.{Follows, HasLogOf, Image, CrashImages, Settled}
use Rattle.disk_model.specs.Moments.{Elapses}
use Rattle.disk_model.proofs.MomentsLemmas.{throughout_first}
use Rattle.disk_model.specs.Stretches.{OnlyRead}
use Rattle.journal.specs.Reading.{AreSettled}

-- what a crash leaves after a sync it may have left before
synced_fewer : (file : ℕ) (seen after : Option Image) (old new : CrashImages) → IsSome seen → after ≡ seen → IfSome seen
    old
    → ((other was now : Image) → old other → old was → HasLogOf file other was now → old now)
    → Settled file after new → Follows (OnlyAt file Any) old new → (c : Image) → new c → old c
synced_fewer file None after old new told same reads alone settled follows c left = absurd (cc)
synced_fewer file (Some image) after old new told same reads alone settled follows c left =
    let (d, was, at) = follows c left in
    let now : IfSome (Some image) (λ image. (c : Image) → new c → c file ≡ image file) = rw same at settled in
    alone image d c reads was (record { here = now c left; others = at.others })

module _ {D : Type 0} (of_disk : Disk.Ghosts D) (old new : D) (same : of_disk.seen new ≡ of_disk.seen old)
    (only : (c : Image) → of_disk.left_since old (of_disk.moment old) c → of_disk.may_leave old c)
    (goes : Elapses (of_disk.moment old) (of_disk.moment new) (of_disk.left_since old) (of_disk.left_since new) (of_disk.may_leave new)) where
  pub fewer_only_read : ((c : Image) → of_disk.may_leave new c → of_disk.may_leave old c)
      → OnlyRead of_disk old new
  fewer_only_read fewer = record {
    same = same;
    fewer = fewer;
    images = throughout_first _ _ _ _ (of_disk.may_leave old) (of_disk.may_leave new) (of_disk.may_leave old) only goes (λ c was. was) fewer;
  }

  pub sync_only_reads : (file : ℕ) → IsSome (of_disk.seen old) → IfSome (of_disk.seen old) (of_disk.may_leave old)
      → ((other was now : Image) → of_disk.may_leave old other → of_disk.may_leave old was → HasLogOf file other was now → of_disk.may_leave
      old now)
      → Settled file (of_disk.seen new) (of_disk.may_leave new) → Follows (OnlyAt file Any) (of_disk.may_leave old) (of_disk.may_leave new)
      → OnlyRead of_disk old new
  sync_only_reads file told reads alone settled follows =
      fewer_only_read (synced_fewer file (of_disk.seen old) (of_disk.seen new) (of_disk.may_leave old) (of_disk.may_leave new) told same reads alone
      settled follows)

  pub sync_reads : {T E : Type 0} (file : ℕ) (result : Result T E) → IsSome (of_disk.seen old) → IfSome (of_disk.seen old) (of_disk.may_leave
      old)
      → ((other was now : Image) → of_disk.may_leave old other → of_disk.may_leave old was → HasLogOf file other was now → of_disk.may_leave
      old now)
      → OnOk result (Settled file (of_disk.seen new) (of_disk.may_leave new)) → OnOk result (Follows (OnlyAt file Any) (of_disk.may_leave old)
      (of_disk.may_leave new))
      → OnErr result ((c : Image) → of_disk.may_leave new c → of_disk.may_leave old c)
      → OnlyRead of_disk old new
  sync_reads file (Ok v) told reads alone settled follows broken = sync_only_reads file told reads alone settled follows
  sync_reads file (Err e) told reads alone settled follows broken = fewer_only_read broken

-- a log that is settled is so after less may be left
pub settled_still : (file : ℕ) (seen after : Option Image) (old new : CrashImages) → after ≡ seen
    → ((c : Image) → new c → old c) → Settled file seen old → Settled file after new
settled_still file None after old new same fewer settled = rw same tt
settled_still file (Some image) after old new same fewer settled = rw same (λ c left. settled c (fewer c left))

-- what was told still is
settled_told : (file : ℕ) (seen after : Option Image) (old new : CrashImages) → after ≡ seen
    → (IsSome seen → (c : Image) → new c → old c) → Settled file seen old → Settled file after new
settled_told file None after old new same fewer settled = rw same tt
settled_told file (Some image) after old new same fewer settled = settled_still file (Some image) after old new same
    (fewer refl) settled

-- one more log is settled
pub settled_more : (end : ℕ) (seen after : Option Image) (old new : CrashImages) → after ≡ seen
    → (IsSome seen → (c : Image) → new c → old c) → AreSettled end seen old → Settled end after new
    → AreSettled (end + 1) after new
settled_more end seen after old new same fewer before here = record {
  each = λ file lt. ⊎_elim (λ is. subst (λ k. Settled k after new) (sym is) here)
      (λ apart. settled_told file seen after old new same fewer (before.each file (omega (arith, lt, apart))))
      (cases_eq file end);
}
