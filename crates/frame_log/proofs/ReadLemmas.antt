-- Reading on behind what was read.
use Rattle.std.proofs.Common.{◌≡◌, ◌≤◌, ◌+◌, ◌∙◌, refl, sym, ap, ℕ, List, ◌++◌, length, take, drop, Option, Some, None, IfSome, arith}
use Rattle.std.proofs.lemmas.List.{take-append-drop, take-take, drop-take, drop-drop, take-append-le, length-take-le}
use Rattle.std.proofs.Math.Seq.{take-append-add}
use Rattle.disk_model.specs.Logs.{Image}
use Rattle.disk_model.specs.Stretches.{OnlyRead}
use Rattle.disk_model.specs.declared.disk.Disk
use Rattle.frame_log.specs.Scanned.{IsRead}
use Rattle.frame_log.proofs.Stretches.{throughout_still, throughout_weaker, throughout_then}

pub if_some : {A : Type 0} {P Q : A → Type 0} (o : Option A) → IfSome o P → ((x : A) → P x → Q x) → IfSome o Q
if_some None is then = tt
if_some (Some x) is then = then x is

pub if_some_both : {A : Type 0} {P Q R : A → Type 0} (o : Option A) → IfSome o P → IfSome o Q →
    ((x : A) → P x → Q x → R x) → IfSome o R
if_some_both None is also then = tt
if_some_both (Some x) is also then = then x is also

pub if_some_three : {A : Type 0} {P Q R S : A → Type 0} (o : Option A) → IfSome o P → IfSome o Q → IfSome o R
    → ((x : A) → P x → Q x → R x → S x) → IfSome o S
if_some_three None is also besides then = tt
if_some_three (Some x) is also besides then = then x is also besides

pub if_some_all : {A : Type 0} {Q : A → Type 0} (o : Option A) → ((x : A) → Q x) → IfSome o Q
if_some_all None then = tt
if_some_all (Some x) then = then x

pub take_two : (a b : ℕ) (l : List ℕ) → take (a + b) l ≡ take a l ++ take b (drop a l)
take_two a b l = sym (take-append-drop a (take (a + b) l)) ∙ ap (λ (x : List ℕ). x ++ drop a (take (a + b) l))
    (take-take a (a + b) l (omega arith)) ∙ ap (λ (x : List ℕ). take a l ++ x) (drop-take a b l)

pub read_on : (bytes : List ℕ) (place done count : ℕ) (out tail rest : List ℕ) → done ≤ length out → count ≤ length tail
    → take count tail ≡ take count (drop (place + done) bytes) → IsRead bytes place done out → IsRead bytes place
    (done + count) (take done out ++ (tail ++ rest))
read_on bytes place done count out tail rest fits whole next is =
    let long : length (take done out) ≡ done = length-take-le done out fits in
    ap (λ (n : ℕ). take (n + count) (take done out ++ (tail ++ rest))) (sym long)
    ∙ take-append-add (take done out) (tail ++ rest) count
    ∙ ap (λ (x : List ℕ). take done out ++ x) (take-append-le count tail rest whole ∙ next ∙ ap
    (λ (x : List ℕ). take count x) (sym (drop-drop done place bytes)))
    ∙ ap (λ (x : List ℕ). x ++ take count (drop done (drop place bytes))) is
    ∙ sym (take_two done count (drop place bytes))

module _ {D : Type 0} (of_disk : Disk.Ghosts D) where
  pub only_read_same : (disk : D) → ((c : Image) → of_disk.left_since disk (of_disk.moment disk) c
      → of_disk.may_leave disk c) → OnlyRead
      of_disk disk disk
  only_read_same disk only = record {
    same = refl;
    fewer = λ c left. left;
    images = throughout_still _ _ _ _ only (λ c may. may);
  }

  pub only_read_more : (old mid new : D) → OnlyRead of_disk old mid → OnlyRead of_disk mid new
      → OnlyRead of_disk old new
  only_read_more old mid new first second = record {
    same = second.same ∙ first.same;
    fewer = λ c left. first.fewer c (second.fewer c left);
    images = throughout_then _ _ _ _ _ _ _ first.images
        (throughout_weaker _ _ _ _ (of_disk.may_leave mid) (of_disk.may_leave old)
        second.images first.fewer);
  }

  -- how far a read has come
  pub record IsFilled (first now : D) (file place done : ℕ) (was out : List ℕ) : Type 0 where
    pub read : OnlyRead of_disk first now
    pub len : length out ≡ length was
    pub within : done ≤ length out
    pub bytes : IfSome (of_disk.seen first) (λ image. IsRead (image file) place done out)
    pub later : of_disk.faults first ≤ of_disk.faults now
