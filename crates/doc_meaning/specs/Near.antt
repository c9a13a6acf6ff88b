-- Words that are close to each other.
use Rattle.std.specs.Prelude.{ℕ, ◌≡◌, ◌+◌, ◌≤◌, Bool, true, ◌||◌, ◌&&◌, not, nat_lt, nat_le, List, [], ◌∷◌, map, flat_map, Contains, All}
use Rattle.std.specs.List.{list_any, list_all}

-- one number of each list, in all ways
abbrev pub choices : List (List ℕ) → List (List ℕ)
choices [] = [] ∷ []
choices (ns ∷ rest) = flat_map (λ n. map (λ chosen. n ∷ chosen) (choices rest)) ns

-- each number is less than the next
abbrev pub is_rising : List ℕ → Bool
is_rising [] = true
is_rising (n ∷ []) = true
is_rising (n ∷ m ∷ ns) = nat_lt n m && is_rising (m ∷ ns)

-- no two of the numbers are further apart than the distance
abbrev pub is_within : ℕ → List ℕ → Bool
is_within distance ns = list_all (λ n. list_all (λ m. nat_le n (m + distance)) ns) ns

-- one start of each child can be chosen so that they are within the distance, and rise where that is asked
unfoldable pub is_near : ℕ → Bool → List (List ℕ) → Bool
is_near distance ordered children =
    list_any (λ chosen. is_within distance chosen && (not ordered || is_rising chosen)) (choices children)

-- the chosen numbers are one of each list
abbrev pub ChoosesOne : List ℕ → List (List ℕ) → Type 0
ChoosesOne [] [] = Unit {0}
ChoosesOne (n ∷ chosen) (ns ∷ children) = Contains ns n × ChoosesOne chosen children
ChoosesOne _ _ = ⊥

-- the same as a relation: there is a list of numbers, one start per child
pub record IsNear (distance : ℕ) (ordered : Bool) (children : List (List ℕ)) : Type 0 where
  pub chosen : List ℕ
  pub one_each : ChoosesOne chosen children
  pub close : All (λ n. All (λ m. n ≤ m + distance) chosen) chosen
  pub rises : ordered ≡ true → is_rising chosen ≡ true
