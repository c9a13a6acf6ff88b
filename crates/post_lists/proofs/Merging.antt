-- Merging two lists.
use Rattle.std.proofs.Common.{◌≡◌, ℕ, ◌+◌, ◌≤◌, Bool, true, false, cond, ◌||◌, nat_lt, ◌==◌}
use Rattle.std.proofs.Common.{List, [], ◌∷◌, ◌++◌, Some, None, refl, sym, ap, subst, ◌∙◌, append_assoc}
use Rattle.std.proofs.Common.{◌⊎◌, inl, inr, arith}
use Rattle.std.specs.List.{slice_get}
use Rattle.std.specs.List.Sorted.{IsStrictlyIncreasing}
use Rattle.std.proofs.lemmas.Bool.{eq-eqb, eqb-false, eqb-true, ltb-false, ltb-true}
use Rattle.std.proofs.lemmas.List.{append-nil}
use Rattle.std.proofs.lemmas.Option.{same_Some}
use Rattle.post_lists.specs.Sets.{Collects, has, lesser, starts_with, without_first}
use Rattle.post_lists.proofs.Rising.{Above, above, above_front, above_join, above_rest, increasing}
use Rattle.post_lists.proofs.Choosing.{has_push}

abbrev Leads : ℕ → List ℕ → Type 0
Leads x [] = Unit {0}
Leads x (y ∷ ys) = x ≤ y

starts : (x y : ℕ) (ys : List ℕ) → y ≡ x → starts_with x (y ∷ ys) ≡ true
starts x y ys e = eq-eqb x y (sym e)

record Least (L R : List ℕ) (x : ℕ) : Type 0 where
  left : Leads x L
  right : Leads x R
  first : (starts_with x L ≡ true) ⊎ (starts_with x R ≡ true)

least : (L R : List ℕ) (x : ℕ) → lesser (slice_get L 0) (slice_get R 0) ≡ Some x → Least L R x
least [] [] x e = absurd cc
least [] (z ∷ zs) x e =
    let is : z ≡ x = same_Some z x e in
    record { left = tt; right = omega (arith, is); first = inr (starts x z zs is) }
least (y ∷ ys) [] x e =
    let is : y ≡ x = same_Some y x e in
    record { left = omega (arith, is); right = tt; first = inl (starts x y ys is) }
least (y ∷ ys) (z ∷ zs) x e = go (nat_lt z y) refl e
  where
    go : (b : Bool) → nat_lt z y ≡ b → cond b (Some z) (Some y) ≡ Some x → Least (y ∷ ys) (z ∷ zs) x
    go true t e =
        let is : z ≡ x = same_Some z x e in
        record { left = omega (arith, is, ltb-true z y t); right = omega (arith, is); first = inr (starts x z zs is) }
    go false t e =
        let is : y ≡ x = same_Some y x e in
        record { left = omega (arith, is); right = omega (arith, is, ltb-false z y t); first = inl (starts x y ys is) }

first_above : (out : List ℕ) (x : ℕ) (L : List ℕ) → Above 0 (out ++ L) → starts_with x L ≡ true
    → Above 0 (out ++ x ∷ [])
first_above out x [] a e = absurd cc
first_above out x (y ∷ ys) a e =
    let is : x ≡ y = eqb-true x y e in
    let front : Above 0 ((out ++ y ∷ []) ++ ys) = subst (Above 0) (sym (append_assoc out (y ∷ []) ys)) a in
    subst (λ (z : ℕ). Above 0 (out ++ z ∷ [])) (sym is) (above_front 0 (out ++ y ∷ []) ys front)

side_rising : (out : List ℕ) (x : ℕ) (L : List ℕ) → Above 0 (out ++ x ∷ []) → Above 0 (out ++ L) → Leads x L
    → Above 0 ((out ++ x ∷ []) ++ without_first x L)
side_rising out x [] up a lead = subst (Above 0) (sym (append-nil (out ++ x ∷ []))) up
side_rising out x (y ∷ ys) up a lead = go (x == y) refl
  where
    go : (b : Bool) → (x == y) ≡ b → Above 0 ((out ++ x ∷ []) ++ cond b ys (y ∷ ys))
    go true t =
        let is : x ≡ y = eqb-true x y t in
        above_join 0 out x ys up (subst (λ (z : ℕ). Above (z + 1) ys) (sym is) (above_rest 0 out y ys a).1)
    go false t =
        let ne : x ≡ y → ⊥ = eqb-false x y t in
        let lt : x + 1 ≤ y = omega (arith, lead, ne) in
        above_join 0 out x (y ∷ ys) up (lt, (above_rest 0 out y ys a).1)

twice : (b h : Bool) → (b || h) ≡ (b || (b || h))
twice true h = refl
twice false h = refl

side_has : (x : ℕ) (L : List ℕ) (z : ℕ) → ((z == x) || has (without_first x L) z) ≡ ((z == x) || has L z)
side_has x [] z = refl
side_has x (y ∷ ys) z = go (x == y) refl
  where
    go : (b : Bool) → (x == y) ≡ b → ((z == x) || has (cond b ys (y ∷ ys)) z) ≡ ((z == x) || has (y ∷ ys) z)
    go true t =
        twice (z == x) (has ys z) ∙ ap (λ (w : ℕ). (z == x) || ((z == w) || has ys z)) (eqb-true x y t)
    go false t = refl

starts_there : (x : ℕ) (L : List ℕ) → starts_with x L ≡ true → has L x ≡ true
starts_there x [] e = absurd cc
starts_there x (y ∷ ys) e = ap (λ (b : Bool). b || has ys x) e

or_true : (a b : Bool) → b ≡ true → (a || b) ≡ true
or_true true b e = refl
or_true false b e = e

joins : (o e l r l' r' : Bool) → (e || l') ≡ (e || l) → (e || r') ≡ (e || r) → (e ≡ true → (l || r) ≡ true)
    → ((o || (e || false)) || (l' || r')) ≡ (o || (l || r))
joins true e l r l' r' p q h = refl
joins false true l r l' r' p q h = sym (h refl)
joins false false l r l' r' p q h = ap (λ (b : Bool). b || r') p ∙ ap (λ (b : Bool). l || b) q

module _ (out L R : List ℕ) (x : ℕ) (e : lesser (slice_get L 0) (slice_get R 0) ≡ Some x)
    (left_rising : IsStrictlyIncreasing (out ++ L)) (right_rising : IsStrictlyIncreasing (out ++ R)) where
  up : Above 0 (out ++ x ∷ [])
  up =
      elim ((least L R x e).first) [
        | inl t ↦ first_above out x L (above (out ++ L) left_rising) t
        | inr t ↦ first_above out x R (above (out ++ R) right_rising) t
      ]

  pub merge_rising : IsStrictlyIncreasing (out ++ x ∷ [])
  merge_rising = increasing 0 (out ++ x ∷ []) up

  pub merge_left : IsStrictlyIncreasing ((out ++ x ∷ []) ++ without_first x L)
  merge_left =
      increasing 0 ((out ++ x ∷ []) ++ without_first x L)
      (side_rising out x L up (above (out ++ L) left_rising) (least L R x e).left)

  pub merge_right : IsStrictlyIncreasing ((out ++ x ∷ []) ++ without_first x R)
  merge_right =
      increasing 0 ((out ++ x ∷ []) ++ without_first x R)
      (side_rising out x R up (above (out ++ R) right_rising) (least L R x e).right)

  there : (has L x || has R x) ≡ true
  there =
      elim ((least L R x e).first) [
        | inl t ↦ ap (λ (b : Bool). b || has R x) (starts_there x L t)
        | inr t ↦ or_true (has L x) (has R x) (starts_there x R t)
      ]

  pub merge_has : (z : ℕ) → (has (out ++ x ∷ []) z || (has (without_first x L) z || has (without_first x R) z))
      ≡ (has out z || (has L z || has R z))
  merge_has z =
      ap (λ (b : Bool). b || (has (without_first x L) z || has (without_first x R) z)) (has_push out x z)
      ∙ joins (has out z) (z == x) (has L z) (has R z) (has (without_first x L) z) (has (without_first x R) z)
      (side_has x L z) (side_has x R z)
      (λ t. ap (λ (y : ℕ). has L y || has R y) (eqb-true z x t) ∙ there)

or_none : (o : Bool) → (o || (false || false)) ≡ o
or_none true = refl
or_none false = refl

pub merged_all : (passes : ℕ → Bool) (out L R : List ℕ) → lesser (slice_get L 0) (slice_get R 0) ≡ None
    → IsStrictlyIncreasing (out ++ L) → ((z : ℕ) → (has out z || (has L z || has R z)) ≡ passes z) → Collects passes out
merged_all passes out [] [] e rising told = record {
  rising = subst IsStrictlyIncreasing (append-nil out) rising;
  each = λ z. sym (or_none (has out z)) ∙ told z;
}
merged_all passes out [] (z ∷ zs) e rising told = absurd cc
merged_all passes out (y ∷ ys) [] e rising told = absurd cc
merged_all passes out (y ∷ ys) (z ∷ zs) e rising told = go (nat_lt z y) e
  where
    go : (b : Bool) → cond b (Some z) (Some y) ≡ None → Collects passes out
    go true e = absurd cc
    go false e = absurd cc
