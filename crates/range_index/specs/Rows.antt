-- The rows of an index, their order, and which of them compare as asked.
use Rattle.std.specs.Prelude.{ℕ, ◌≡◌, ◌↔◌, Bool, IsTrue, List, Any, Contains, length}
use Rattle.std.specs.Cmp.Lexicographic.{slice_cmp}
use Rattle.std.specs.List.{AllAdjacentBelow}
use Rattle.std.specs.List.Sorted.{IsStrictlyIncreasing}
use Rattle.std.specs.declared.cmp.Ordering.{Ordering}
use Rattle.std.specs.declared.cmp.Ordering.TheVariants.{Less}
use Rattle.std.specs.Ordering.{nat_cmp, is_lt, is_le, is_gt, is_ge, is_eq, is_ne, ordering_then}
use Rattle.range_index.specs.declared.compare.Compare.{Compare}
use Rattle.range_index.specs.declared.compare.Compare.TheVariants.{Lt, Le, Gt, Ge, Eq, Ne}

-- the bytes of a value, and a fragment
abbrev pub Row : Type 0
Row = List ℕ × ℕ

-- values are ordered by the first byte that differs; one that begins another comes before it
abbrev pub value_cmp : List ℕ → List ℕ → Ordering
value_cmp a b = slice_cmp nat_cmp a b

-- rows are ordered by their values, and rows of one value by their fragments
abbrev pub row_cmp : Row → Row → Ordering
row_cmp a b = ordering_then (value_cmp a.0 b.0) (nat_cmp a.1 b.1)

-- each row is less than the next
abbrev pub IsRising : List Row → Type 0
IsRising rows = AllAdjacentBelow (λ a b. row_cmp a b ≡ Less) rows (length rows)

-- a value that was found compares so with a given one
abbrev pub compares : Compare → List ℕ → List ℕ → Bool
compares Lt found given = is_lt (value_cmp found given)
compares Le found given = is_le (value_cmp found given)
compares Gt found given = is_gt (value_cmp found given)
compares Ge found given = is_ge (value_cmp found given)
compares Eq found given = is_eq (value_cmp found given)
compares Ne found given = is_ne (value_cmp found given)

-- some row has this fragment and a value that compares so with the given one
abbrev pub HasRow : List Row → Compare → List ℕ → ℕ → Type 0
HasRow rows op given fragment = Any (λ (row : Row). IsTrue (compares op row.0 given) × (row.1 ≡ fragment)) rows

-- the fragments that have such a row, each once and in order
pub record FindsFragments (rows : List Row) (op : Compare) (given : List ℕ) (found : List ℕ) : Type 0 where
  pub members : (fragment : ℕ) → Contains found fragment ↔ HasRow rows op given fragment
  pub rising : IsStrictlyIncreasing found
