-- Truth values that are equal, and whether some element of a list passes.
use Rattle.std.proofs.Common.{◌≡◌, ℕ, ◌<◌, ◌≤◌, Bool, true, false, List, length, get_or, take, refl, sym, ap, ◌∙◌}
use Rattle.std.proofs.lemmas.List.{take_all}
use Rattle.std.proofs.lemmas.List.Folds.{list_any_at}
use Rattle.std.specs.List.{list_any}

-- each is true where the other one is
pub same_truth : (a b : Bool) → (a ≡ true → b ≡ true) → (b ≡ true → a ≡ true) → a ≡ b
same_truth true b there back = sym (there refl)
same_truth false true there back = back refl
same_truth false false there back = refl

pub is_false : (b : Bool) → (b ≡ true → ⊥) → false ≡ b
is_false true not = absurd (not refl)
is_false false not = refl

-- at a return from the middle of a loop
pub passes_here : {A : Type 0} (p : A → Bool) (xs : List A) (i : ℕ) (x : A) (b : Bool) → i < length xs →
    x ≡ get_or xs i x → b ≡ p x → b ≡ true → true ≡ list_any p xs
passes_here p xs i x b lt is says holds = sym (list_any_at p xs i x lt (ap p (sym is) ∙ sym says ∙ holds))

-- behind the loop
pub passes_nowhere : {A : Type 0} (p : A → Bool) (xs : List A) (i : ℕ) → length xs ≤ i →
    list_any p (take i xs) ≡ false → false ≡ list_any p xs
passes_nowhere p xs i le none = sym none ∙ ap (list_any p) (take_all i xs le)
