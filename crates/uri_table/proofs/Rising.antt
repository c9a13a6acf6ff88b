-- Rows that rise are parted by each bound on their URIs.
use Rattle.std.proofs.Common.{◌≡◌, ℕ, false, List, take, ap, ◌∙◌, inl, inr}
use Rattle.std.specs.Cmp.Lexicographic.{slice_cmp}
use Rattle.std.specs.List.Sorted.{IsNonDecreasingBy, IsPartitionedBy, IsSortedBy}
use Rattle.std.specs.Ordering.{is_lt, is_le, nat_cmp, ordering_index, ordering_reverse}
use Rattle.std.proofs.lemmas.Cmp.{nat_list_cmp_total}
use Rattle.std.proofs.lemmas.List.Sorted.{searchable_from_sorted}
use Rattle.uri_table.specs.Rows.{Row, ComesBefore, IsRising}
use Rattle.uri_table.proofs.Orders.{equal_itself, heads_not_less, lt_down, le_down}

not_after : (a b : Row) → ComesBefore a b → is_lt (slice_cmp nat_cmp b.0 a.0) ≡ false
not_after a b (inl less) = ap is_lt (nat_list_cmp_total.antisymm b.0 a.0 ∙ ap ordering_reverse less)
not_after a b (inr same) = ap (λ uri. is_lt (slice_cmp nat_cmp b.0 uri)) same.0 ∙ ap is_lt (equal_itself b.0)

module _ (rows : List Row) (rising : IsRising rows) where
  uris_sorted : IsSortedBy (λ (a b : Row). is_lt (slice_cmp nat_cmp a.0 b.0)) rows
  uris_sorted k d low next = not_after _ _ (rising k d next)

  heads_sorted : (n : ℕ) → IsSortedBy (λ (a b : Row). is_lt (slice_cmp nat_cmp (take n a.0) (take n b.0))) rows
  heads_sorted n k d low next = heads_not_less n _ _ (uris_sorted k d low next)

  -- how URIs, or their first bytes, compare with a text never falls
  rises : (key : Row → List ℕ) → IsSortedBy (λ (a b : Row). is_lt (slice_cmp nat_cmp (key a) (key b))) rows
      → (text : List ℕ) → IsNonDecreasingBy (λ (row : Row). ordering_index (slice_cmp nat_cmp (key row) text)) rows
  rises key sorted text = searchable_from_sorted nat_list_cmp_total key rows text sorted

  pub parted_below : (text : List ℕ) → IsPartitionedBy (λ (row : Row). is_lt (slice_cmp nat_cmp row.0 text)) rows
  parted_below text i j d le within = lt_down _ _ (rises (λ row. row.0) uris_sorted text i j d le within)

  pub parted_upto : (text : List ℕ) → IsPartitionedBy (λ (row : Row). is_le (slice_cmp nat_cmp row.0 text)) rows
  parted_upto text i j d le within = le_down _ _ (rises (λ row. row.0) uris_sorted text i j d le within)

  pub heads_parted_upto : (n : ℕ) (text : List ℕ)
      → IsPartitionedBy (λ (row : Row). is_le (slice_cmp nat_cmp (take n row.0) text)) rows
  heads_parted_upto n text i j d le within =
      le_down _ _ (rises (λ row. take n row.0) (heads_sorted n) text i j d le within)
