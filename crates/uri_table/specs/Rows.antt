-- Rows of URIs: their order, and the runs of rows that have a property.
use Rattle.std.specs.Prelude.{ℕ, ◌≡◌, ◌<◌, ◌≤◌, ◌⊎◌, ◌++◌, List, length}
use Rattle.std.specs.List.{AllAdjacentBelow, AllWithin}
use Rattle.std.specs.Cmp.Lexicographic.{slice_cmp}
use Rattle.std.specs.Ordering.{nat_cmp}
use Rattle.std.specs.declared.cmp.Ordering.TheVariants.{Less}

-- the bytes of a URI, and the created stamp of one of its versions
abbrev pub Row : Type 0
Row = List ℕ × ℕ

-- a text is less than another in the order of bytes: where they first differ it has the lesser byte, or it ends
abbrev pub IsLess : List ℕ → List ℕ → Type 0
IsLess a b = slice_cmp nat_cmp a b ≡ Less

-- a row comes before another: its URI is less, or it has the same URI and the lesser created stamp
abbrev pub ComesBefore : Row → Row → Type 0
ComesBefore a b = IsLess a.0 b.0 ⊎ ((a.0 ≡ b.0) × (a.1 < b.1))

-- each row comes before the next one
abbrev pub IsRising : List Row → Type 0
IsRising rows = AllAdjacentBelow ComesBefore rows (length rows)

-- the row has this URI
abbrev pub HasUri : List ℕ → Row → Type 0
HasUri uri row = row.0 ≡ uri

-- the URI of the row is the prefix followed by some rest
abbrev pub HasPrefix : List ℕ → Row → Type 0
HasPrefix prefix row = (rest : List ℕ) × (row.0 ≡ prefix ++ rest)

-- the rows at `from`, `from` + 1, .. up to `to` have the property, and no others have it
pub record IsRun (rows : List Row) (from to : ℕ) (Has : Row → Type 0) : Type 0 where
  pub ordered : from ≤ to
  pub within : to ≤ length rows
  pub has : AllWithin Has rows from to
  pub none_before : AllWithin (λ row. Has row → ⊥) rows 0 from
  pub none_after : AllWithin (λ row. Has row → ⊥) rows to (length rows)

-- where a row with this URI would be inserted: exactly the rows before it have lesser URIs
pub record IsInsertionPoint (uri : List ℕ) (rows : List Row) (point : ℕ) : Type 0 where
  pub within : point ≤ length rows
  pub before : AllWithin (λ row. IsLess row.0 uri) rows 0 point
  pub after : AllWithin (λ row. IsLess row.0 uri → ⊥) rows point (length rows)
