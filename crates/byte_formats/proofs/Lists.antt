-- Lists of values.
use Rattle.std.proofs.Common.{◌≡◌, ℕ, zero, suc, Bool, true, List, [], ◌∷◌, length, Some}
use Rattle.std.proofs.Common.{refl, sym, ap}
use Rattle.std.proofs.lemmas.Bool.{and_parts}
use Rattle.byte_formats.specs.Fields.{listed}
use Rattle.byte_formats.specs.Format.{Format, both, cons, is_empty, many, uncons}
use Rattle.byte_formats.specs.Lawful.{Lawful}
use Rattle.byte_formats.proofs.Basic.{counted_lawful}
use Rattle.byte_formats.proofs.Pairs.{both_lawful}
use Rattle.byte_formats.proofs.Pieces.{constant_lawful, made_lawful}
use Rattle.byte_formats.proofs.Steps.{some_is}

empty_is : {X : Type 0} (xs : List X) → is_empty xs ≡ true → xs ≡ []
empty_is [] h = refl
empty_is (x ∷ xs) h = absurd cc

cons_back : {X : Type 0} (xs : List X) (p : X × List X) → uncons xs ≡ Some p → cons p ≡ xs
cons_back [] p e = absurd cc
cons_back (x ∷ xs) p e = sym (ap cons (some_is (x, xs) p e))

module _ {S X : Type 0} (item : S → Format X) (next : S → X → S) (each : (s : S) → Lawful (item s)) where
  pub many_lawful : (s : S) (n : ℕ) → Lawful (many item next s n)
  unfolding many
  many_lawful s zero = constant_lawful [] is_empty refl empty_is
  many_lawful s (suc n) =
      made_lawful cons uncons (both (item s) (λ x. many item next (next s x) n))
      (both_lawful (item s) (λ x. many item next (next s x) n) (each s) (λ x. many_lawful (next s x) n))
      (λ p h. refl) cons_back

module _ {S X : Type 0} (item : S → Format X) (next : S → X → S) where
  pub many_counts : (n : ℕ) (s : S) (xs : List X) → (many item next s n).fits xs ≡ true → length xs ≡ n
  unfolding many
  many_counts zero s [] h = refl
  many_counts zero s (x ∷ xs) h = absurd cc
  many_counts (suc n) s [] h = absurd cc
  many_counts (suc n) s (x ∷ xs) h =
      ap suc (many_counts n (next s x) xs (and_parts ((item s).fits x) ((many item next (next s x) n).fits xs) h).1)

pub listed_lawful : {S X : Type 0} (rule : ℕ → Bool) (item : S → Format X) (next : S → X → S) (s : S)
    → ((s : S) → Lawful (item s)) → Lawful (listed rule item next s)
listed_lawful rule item next s each =
    counted_lawful rule length (many item next s) (many_lawful item next each s)
    (λ n xs h. many_counts item next n s xs h)
