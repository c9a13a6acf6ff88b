-- Numbers that are close to each other, chosen one by one.
use Rattle.std.specs.Prelude.{ℕ, Bool, ◌&&◌, ◌||◌, not, List, ◌++◌}
use Rattle.std.specs.List.{list_any}
use Rattle.doc_meaning.specs.Near.{choices, is_rising, is_within}

-- they are within the distance, and rise where that is asked
abbrev pub is_close : ℕ → Bool → List ℕ → Bool
is_close distance ordered numbers = is_within distance numbers && (not ordered || is_rising numbers)

-- one number of each list can be chosen so that they are close, together with those chosen already
abbrev pub can_be_close : ℕ → Bool → List ℕ → List (List ℕ) → Bool
can_be_close distance ordered chosen children =
    list_any (λ rest. is_close distance ordered (chosen ++ rest)) (choices children)
