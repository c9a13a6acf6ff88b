-- The rows of an index as two columns, and how they are searched.
use Rattle.std.specs.Prelude.{ℕ, ◌≡◌, ◌⊎◌, ◌↔◌, ◌^◌, ◌<◌, ◌≤◌, List, Any, Contains, IsSortedBy, length, zip}
use Rattle.std.specs.List.Sorted.{IsPartitionPoint, IsStrictlyIncreasing}
use Rattle.std.specs.declared.cmp.Ordering.{Ordering}
use Rattle.std.specs.Ordering.{is_lt, ordering_index}
use Rattle.range_index.specs.Rows.{IsRising, Row, value_cmp}

-- each value has a fragment, the rows rise, and there are fewer than 2^32
pub record IsIndex (values : List (List ℕ)) (fragments : List ℕ) : Type 0 where
  pub paired : length fragments ≡ length values
  pub rising : IsRising (zip values fragments)
  pub few : length fragments < 2 ^ 32

-- no value is less than the one before it
abbrev pub NeverFall : List (List ℕ) → Type 0
NeverFall values = IsSortedBy (λ a b. is_lt (value_cmp a b)) values

-- values compare with the given one lower than `from` before a place, and as `from` or higher from there on
abbrev pub IsFirstFrom : List (List ℕ) → List ℕ → Ordering → ℕ → Type 0
IsFirstFrom values given from place =
    (place ≤ length values)
    × IsPartitionPoint (λ found. ordering_index (value_cmp found given) < ordering_index from)
    (λ found. ordering_index from ≤ ordering_index (value_cmp found given)) values place

-- the fragments of the rows whose values compare so with the given one
abbrev pub IsGroup : List Row → List ℕ → Ordering → List ℕ → Type 0
IsGroup rows given order fragments = (fragment : ℕ) →
    Contains fragments fragment ↔ Any (λ (row : Row). (value_cmp row.0 given ≡ order) × (row.1 ≡ fragment)) rows

-- the numbers of two lists, each once and in order
pub record JoinsOnce (front back found : List ℕ) : Type 0 where
  pub members : (n : ℕ) → Contains found n ↔ (Contains front n ⊎ Contains back n)
  pub rising : IsStrictlyIncreasing found
