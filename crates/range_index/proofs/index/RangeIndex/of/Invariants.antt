use Rattle.std.proofs.Common.{◌≡◌, ◌++◌, map, length}
use Rattle.std.specs.Vec.Iter.{into_iter_items, into_iter_len}
use Rattle.range_index.specs.Rows.{Row}
use Rattle.range_index.proofs.index.RangeIndex.of.Given as goal

abbrev pub invariant-loop-value : goal.invariant-loop-value
invariant-loop-value l = record {
  counted : into_iter_len l.value-iterator ≡ length (into_iter_items l.value-iterator);
  values : l.values.items ++ map (λ (row : Row). row.0) (into_iter_items l.value-iterator)
      ≡ map (λ (row : Row). row.0) l.fn.rows.items;
  fragments : l.fragments.items ++ map (λ (row : Row). row.1) (into_iter_items l.value-iterator)
      ≡ map (λ (row : Row). row.1) l.fn.rows.items;
}
