-- Near over lists of starts that rise: the least number at which a choice of one start of each list can end.
use Rattle.std.specs.Prelude.{ℕ, ◌≡◌, ◌+◌, ◌≤◌, Bool, true, List, All, Contains, Option, MatchOption}
use Rattle.std.specs.Prelude.{IsPermutation, if◌then◌else◌}
use Rattle.std.specs.List.Sorted.{IsNonDecreasing}
use Rattle.doc_meaning.specs.Near.{ChoosesOne, is_rising}
use Rattle.doc_filter.specs.declared.bound.Bound.{Bound}
use Rattle.doc_filter.specs.declared.bound.Bound.TheVariants.{From, Above}

-- the least number that a bound allows
abbrev pub floor : Bound → ℕ
floor (From low) = low
floor (Above n) = n + 1

-- the least number that may follow a chosen one
abbrev pub floor_behind : Bool → ℕ → ℕ → ℕ
floor_behind ordered low chosen = if ordered then chosen + 1 else low

-- one number of each list, none below the floor, which rise where that is asked
pub record IsChoice (ordered : Bool) (low : ℕ) (children : List (List ℕ)) (chosen : List ℕ) : Type 0 where
  pub one_each : ChoosesOne chosen children
  pub from : All (λ n. low ≤ n) chosen
  pub rises : ordered ≡ true → is_rising chosen ≡ true

-- the least of all numbers at which such a choice can end
pub record IsLeastEnd (ordered : Bool) (low : ℕ) (children : List (List ℕ)) (end : ℕ) : Type 0 where
  pub chosen : List ℕ
  pub choice : IsChoice ordered low children chosen
  pub within : All (λ n. n ≤ end) chosen
  pub least : (other : List ℕ) (bound : ℕ) → IsChoice ordered low children other → All (λ n. n ≤ bound) other →
      end ≤ bound

-- the least end, none where there is no such choice
abbrev pub FindsEnd : Bool → ℕ → List (List ℕ) → Option ℕ → Type 0
FindsEnd ordered low children found =
    MatchOption found ((chosen : List ℕ) → IsChoice ordered low children chosen → ⊥) (IsLeastEnd ordered low children)

-- the least number of a list that isn't below the floor, none where all are
abbrev pub FindsNext : List ℕ → ℕ → Option ℕ → Type 0
FindsNext numbers low found =
    MatchOption found ((n : ℕ) → Contains numbers n → low ≤ n → ⊥)
    (λ next. Contains numbers next × (low ≤ next) × ((n : ℕ) → Contains numbers n → low ≤ n → next ≤ n))

-- the same numbers in their order
pub record IsSortedCopy (numbers sorted : List ℕ) : Type 0 where
  pub same : IsPermutation numbers sorted
  pub order : IsNonDecreasing sorted
