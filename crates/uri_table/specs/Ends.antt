-- Where the rows end that a search looks for.
use Rattle.std.specs.Prelude.{ℕ, ◌≤◌, List, length, take, IsTrue, IsFalse}
use Rattle.std.specs.List.{AllWithin}
use Rattle.std.specs.Cmp.Lexicographic.{slice_cmp}
use Rattle.std.specs.Ordering.{is_le, nat_cmp}
use Rattle.std.specs.declared.cmp.Ordering.{Ordering}
use Rattle.uri_table.specs.Rows.{Row}

-- how the URI of a row compares with a text
abbrev pub uri_order : List ℕ → Row → Ordering
uri_order text row = slice_cmp nat_cmp row.0 text

-- how the first bytes of the URI of a row, as many as the prefix has, compare with the prefix
abbrev pub head_order : List ℕ → Row → Ordering
head_order prefix row = slice_cmp nat_cmp (take (length prefix) row.0) prefix

-- the rows before the end compare as less or as equal, and the others as greater
pub record IsEndOf (order : Row → Ordering) (rows : List Row) (end : ℕ) : Type 0 where
  pub within : end ≤ length rows
  pub before : AllWithin (λ row. IsTrue (is_le (order row))) rows 0 end
  pub after : AllWithin (λ row. IsFalse (is_le (order row))) rows end (length rows)
