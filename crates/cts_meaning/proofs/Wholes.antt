-- Whole numbers, in units of 10^-18.
use Rattle.std.proofs.Common.{◌≡◌, ℕ, ℤ, pos, negsuc, ◌*◌, ◌/◌, ◌%◌, ◌^◌, ◌≤◌, ◌&&◌, ◌==◌, Bool, true, false, cond, Option, Some, None, refl, ap, ◌∙◌, arith, leb-true, le-leb, eqb-true, eq-eqb}
use Rattle.std.proofs.lemmas.Bool.{and_from, and_parts}
use Rattle.std.specs.Prelude.{nat_le}
use Rattle.cts_meaning.specs.Shapes.{distance_units, whole_within}
use Rattle.cts_meaning.proofs.Named.{not_some, same_some}

abbrev nat_of : ℤ → ℕ
nat_of (pos m) = m
nat_of (negsuc m) = 0

pub same_whole : (k m : ℕ) → pos m ≡ pos (k * 10 ^ 18) → m ≡ k * 10 ^ 18
same_whole k m e = ap nat_of e

some_if : (b : Bool) (x k : ℕ) → cond b (Some x) None ≡ Some k → (b ≡ true) × (x ≡ k)
some_if true x k e = (refl, same_some x k e)
some_if false x k e = absurd (not_some k e)

units_are : (most units k : ℕ) → distance_units most units ≡ Some k → (k ≤ most) × (units ≡ k * 10 ^ 18)
units_are most units k e =
    let found = some_if ((units % 10 ^ 18 == 0) && nat_le (units / 10 ^ 18) most) (units / 10 ^ 18) k e in
    let parts = and_parts (units % 10 ^ 18 == 0) (nat_le (units / 10 ^ 18) most) found.0 in
    let even = eqb-true (units % 10 ^ 18) 0 parts.0 in
    let small = leb-true (units / 10 ^ 18) most parts.1 in
    let same = found.1 in
    (omega (arith, small, same), omega (arith, even, same))

pub whole_is : (most : ℕ) (units : ℤ) (k : ℕ) → whole_within most units ≡ Some k →
    (k ≤ most) × (units ≡ pos (k * 10 ^ 18))
whole_is most (pos units) k e = let are = units_are most units k e in (are.0, ap pos are.1)
whole_is most (negsuc n) k e = absurd (not_some k e)

pub whole_back : (most k : ℕ) → k ≤ most → whole_within most (pos (k * 10 ^ 18)) ≡ Some k
whole_back most k small =
    let units : ℕ = k * 10 ^ 18 in
    let quotient : units / 10 ^ 18 ≡ k = omega arith in
    let even : units % 10 ^ 18 ≡ 0 = omega arith in
    let test : ((units % 10 ^ 18 == 0) && nat_le (units / 10 ^ 18) most) ≡ true =
    and_from (units % 10 ^ 18 == 0) (nat_le (units / 10 ^ 18) most) (eq-eqb (units % 10 ^ 18) 0 even)
    (le-leb (units / 10 ^ 18) most (omega (arith, quotient, small))) in
    ap (λ (b : Bool). cond b (Some (units / 10 ^ 18)) None) test ∙ ap (λ (q : ℕ). Some q) quotient
