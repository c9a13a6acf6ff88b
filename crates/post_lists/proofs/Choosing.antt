-- Lists as sets, and choosing items that are in another list.
use Rattle.std.proofs.Common.{◌≡◌, ℕ, ◌+◌, ◌<◌, ◌≤◌, Bool, true, false, cond, ◌&&◌, ◌||◌, nat_le, ◌==◌}
use Rattle.std.proofs.Common.{List, [], ◌∷◌, ◌++◌, drop, Some, None, refl, sym, ap, subst, ◌∙◌, append_assoc}
use Rattle.std.proofs.Common.{arith}
use mathlib.Core.Bool.{beq}
use Rattle.std.specs.List.{filter, slice_get}
use Rattle.std.specs.List.Sorted.{IsStrictlyIncreasing}
use Rattle.std.proofs.lemmas.Bool.{eqb-true, le-leb, leb-true, ne_eqb}
use Rattle.std.proofs.lemmas.List.{append-nil}
use Rattle.std.proofs.lemmas.List.Folds.{list_any-append}
use Rattle.std.proofs.lemmas.List.Kept.{IsStrictlyIncreasing-filter}
use Rattle.std.proofs.lemmas.Map.Views.{any-filter_same}
use Rattle.std.proofs.lemmas.Option.{same_Some}
use Rattle.post_lists.specs.Sets.{Collects, chosen, has, starts_with}
use Rattle.post_lists.proofs.Jumps.{filter_from}
use Rattle.post_lists.proofs.Rising.{Above, above, above_front, above_rest, above_without, increasing}

-- ---- membership

pub has_push : (xs : List ℕ) (x z : ℕ) → has (xs ++ x ∷ []) z ≡ (has xs z || ((z == x) || false))
has_push xs x z = list_any-append (λ item. z == item) xs (x ∷ [])

pub has_filter : (p : ℕ → Bool) (xs : List ℕ) (z : ℕ) → has (filter p xs) z ≡ (p z && has xs z)
has_filter p xs z = any-filter_same (λ item. z == item) p (p z) (λ k e. ap p (sym (eqb-true z k e))) xs

none_below : (n x : ℕ) (xs : List ℕ) → Above n xs → x < n → has xs x ≡ false
none_below n x [] a lt = refl
none_below n x (y ∷ ys) a lt =
    let no : (x == y) ≡ false = ne_eqb x y (λ e. omega (arith, a.0, e)) in
    rw no (none_below (y + 1) x ys a.1 (omega (arith, a.0)))

or_false : (b c : Bool) → c ≡ false → b ≡ (b || c)
or_false true c e = refl
or_false false c e = sym e

-- of rising items from x on, x is the first or none
starts_has : (n x : ℕ) (xs : List ℕ) → Above n xs → x ≤ n → starts_with x xs ≡ has xs x
starts_has n x [] a le = refl
starts_has n x (y ∷ ys) a le = or_false (x == y) (has ys x) (none_below (y + 1) x ys a.1 (omega (arith, a.0)))

filter_agrees : (p q : ℕ → Bool) (n : ℕ) (xs : List ℕ) → Above n xs → ((z : ℕ) → n ≤ z → p z ≡ q z)
    → filter p xs ≡ filter q xs
filter_agrees p q n [] a same = refl
filter_agrees p q n (x ∷ xs) a same =
    ap (λ (b : Bool). cond b (x ∷ filter p xs) (filter p xs)) (same x a.0)
    ∙ ap (λ (ys : List ℕ). cond (q x) (x ∷ ys) ys)
    (filter_agrees p q (x + 1) xs a.1 (λ z le. same z (omega (arith, a.0, le))))

pub first_some : (xs : List ℕ) (x : ℕ) → slice_get xs 0 ≡ Some x → xs ≡ x ∷ drop 1 xs
first_some [] x e = absurd cc
first_some (y ∷ ys) x e = ap (λ (z : ℕ). z ∷ ys) (same_Some y x e)

pub first_none : (xs : List ℕ) → slice_get xs 0 ≡ None → xs ≡ []
first_none [] e = refl
first_none (y ∷ ys) e = absurd cc

-- ---- choosing items

-- those of rising items that aren't below x
above_rest_of : (x n : ℕ) (xs : List ℕ) → Above n xs → Above x (filter (nat_le x) xs)
above_rest_of x n [] a = tt
above_rest_of x n (y ∷ ys) a = go (above_rest_of x (y + 1) ys a.1) (nat_le x y) refl
  where
    go : Above x (filter (nat_le x) ys) → (b : Bool) → nat_le x y ≡ b
        → Above x (cond b (y ∷ filter (nat_le x) ys) (filter (nat_le x) ys))
    go below true t =
        let le : x ≤ y = leb-true x y t in
        (le, subst (Above (y + 1)) (sym (filter_from x (y + 1) ys (omega (arith, le)) a.1)) a.1)
    go below false t = below

module _ (there : Bool) (list : List ℕ) (x : ℕ) (xs others : List ℕ)
    (rising : IsStrictlyIncreasing (list ++ x ∷ xs)) (others_rising : IsStrictlyIncreasing others) where
  abbrev left : List ℕ
  left = filter (nat_le x) others

  abbrev wanted : Bool
  wanted = chosen there (has others x)

  pub choose_rising : IsStrictlyIncreasing (list ++ x ∷ [])
  choose_rising =
      increasing 0 (list ++ x ∷ [])
      (above_front 0 (list ++ x ∷ []) xs
      (subst (Above 0) (sym (append_assoc list (x ∷ []) xs)) (above (list ++ x ∷ xs) rising)))

  has_left : (z : ℕ) → x ≤ z → has left z ≡ has others z
  has_left z le = has_filter (nat_le x) others z ∙ ap (λ (b : Bool). b && has others z) (le-leb x z le)

  pub choose_told : starts_with x left ≡ has others x
  choose_told = starts_has x x left (above_rest_of x 0 others (above others others_rising)) (omega arith)
      ∙ has_left x (omega arith)

  pub chosen_rest : filter (λ z. chosen there (has left z)) xs ≡ filter (λ z. chosen there (has others z)) xs
  chosen_rest =
      filter_agrees (λ z. chosen there (has left z)) (λ z. chosen there (has others z)) (x + 1) xs
      (above_rest 0 list x xs (above (list ++ x ∷ xs) rising)).1
      (λ z le. ap (chosen there) (has_left z (omega (arith, le))))

  pub choose_goes : (b : Bool) → b ≡ wanted
      → cond b (list ++ x ∷ []) list ++ filter (λ z. chosen there (has left z)) xs
      ≡ list ++ filter (λ z. chosen there (has others z)) (x ∷ xs)
  choose_goes b e =
      ap (λ (w : Bool). cond w (list ++ x ∷ []) list ++ filter (λ z. chosen there (has left z)) xs) e
      ∙ ap (λ (ys : List ℕ). cond wanted (list ++ x ∷ []) list ++ ys) chosen_rest
      ∙ go wanted
    where
      go : (w : Bool) → cond w (list ++ x ∷ []) list ++ filter (λ z. chosen there (has others z)) xs
          ≡ list ++ cond w (x ∷ filter (λ z. chosen there (has others z)) xs)
          (filter (λ z. chosen there (has others z)) xs)
      go true = append_assoc list (x ∷ []) (filter (λ z. chosen there (has others z)) xs)
      go false = refl

  pub choose_rises : (b : Bool) → IsStrictlyIncreasing (cond b (list ++ x ∷ []) list ++ xs)
  choose_rises true = subst IsStrictlyIncreasing (sym (append_assoc list (x ∷ []) xs)) rising
  choose_rises false = increasing 0 (list ++ xs) (above_without 0 list x xs (above (list ++ x ∷ xs) rising))

  pub choose_others : IsStrictlyIncreasing left
  choose_others = IsStrictlyIncreasing-filter (nat_le x) others others_rising

and_flip : (a b : Bool) → (a && b) ≡ (b && a)
and_flip true true = refl
and_flip true false = refl
and_flip false true = refl
and_flip false false = refl

-- the items that pass a test
pub collects : (p : ℕ → Bool) (items list : List ℕ) → IsStrictlyIncreasing list → list ≡ filter p items
    → Collects (λ x. has items x && p x) list
collects p items list rising e = record {
  rising = rising;
  each = λ x. ap (λ (xs : List ℕ). has xs x) e ∙ has_filter p items x ∙ and_flip (p x) (has items x);
}

-- ---- as the loops do

equal_chosen : (there s : Bool) → beq s there ≡ chosen there s
equal_chosen true true = refl
equal_chosen true false = refl
equal_chosen false true = refl
equal_chosen false false = refl

pub record Chosen (there : Bool) (new next left total : List ℕ) : Type 0 where
  pub told : new ++ filter (λ z. chosen there (has left z)) next ≡ total
  pub rising : IsStrictlyIncreasing (new ++ next)
  pub others_rising : IsStrictlyIncreasing left

pub chosen_step : (there : Bool) (list : List ℕ) (x : ℕ) (items others total : List ℕ) (s : Bool)
    (new next left : List ℕ)
    → items ≡ x ∷ drop 1 items → IsStrictlyIncreasing (list ++ items) → IsStrictlyIncreasing others
    → list ++ filter (λ z. chosen there (has others z)) items ≡ total
    → next ≡ drop 1 items → left ≡ filter (nat_le x) others → s ≡ starts_with x left
    → new ≡ cond (beq s there) (list ++ x ∷ []) list → Chosen there new next left total
chosen_step there list x items others total s new next left split rising others_rising told e_next e_left e_s e_new =
    let xs : List ℕ = drop 1 items in
    let cut : List ℕ = filter (nat_le x) others in
    let up : IsStrictlyIncreasing (list ++ x ∷ xs) = subst (λ (ys : List ℕ). IsStrictlyIncreasing (list ++ ys)) split
    rising in
    let is : beq s there ≡ chosen there (has others x) =
    equal_chosen there s ∙ ap (chosen there)
    (e_s ∙ ap (starts_with x) e_left ∙ choose_told there list x xs others up others_rising) in
    let same : new ++ filter (λ z. chosen there (has left z)) next
    ≡ cond (beq s there) (list ++ x ∷ []) list ++ filter (λ z. chosen there (has cut z)) xs =
    ap (λ (ys : List ℕ). ys ++ filter (λ z. chosen there (has left z)) next) e_new
    ∙ ap (λ (ys : List ℕ). cond (beq s there) (list ++ x ∷ []) list ++ filter (λ z. chosen there (has left z)) ys)
    e_next
    ∙ ap (λ (ys : List ℕ). cond (beq s there) (list ++ x ∷ []) list ++ filter (λ z. chosen there (has ys z)) xs)
    e_left in
    record {
      told = same ∙ choose_goes there list x xs others up others_rising (beq s there) is
          ∙ ap (λ (ys : List ℕ). list ++ filter (λ z. chosen there (has others z)) ys) (sym split) ∙ told;
      rising = subst IsStrictlyIncreasing
          (sym (ap (λ (ys : List ℕ). ys ++ next) e_new
          ∙ ap (λ (ys : List ℕ). cond (beq s there) (list ++ x ∷ []) list ++ ys) e_next))
          (choose_rises there list x xs others up others_rising (beq s there));
      others_rising = subst IsStrictlyIncreasing (sym e_left) (choose_others there list x xs others up others_rising);
    }

pub chosen_all : (p q : ℕ → Bool) (list items a : List ℕ) → items ≡ [] → list ++ filter q items ≡ filter p a
    → IsStrictlyIncreasing (list ++ items) → Collects (λ x. has a x && p x) list
chosen_all p q list items a none told rising =
    let same : list ++ [] ≡ list = append-nil list in
    collects p a list
    (subst IsStrictlyIncreasing (ap (λ (ys : List ℕ). list ++ ys) none ∙ same) rising)
    (sym same ∙ ap (λ (ys : List ℕ). list ++ filter q ys) (sym none) ∙ told)
