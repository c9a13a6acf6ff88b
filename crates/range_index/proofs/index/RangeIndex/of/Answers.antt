use Rattle.std.proofs.Common.{◌≡◌, map, sym, ◌∙◌}
use Rattle.std.proofs.lemmas.List.{nil_from_length}
use Rattle.std.specs.Vec.Iter.{into_iter_items}
use Rattle.range_index.specs.Rows.{Row}
use Rattle.range_index.proofs.OrderLemmas.{columns_are, index_is, rows_are}
use Rattle.range_index.proofs.index.RangeIndex.of.Goals as goal
use Rattle.range_index.proofs.index.RangeIndex.of.Goals.{In-None}

columns : (c : In-None) →
    (c.loop-value.values.items ≡ map (λ (row : Row). row.0) c.args.rows.items)
    × (c.loop-value.fragments.items ≡ map (λ (row : Row). row.1) c.args.rows.items)
columns c =
    columns_are c.args.rows.items (into_iter_items c.loop-value.value-iterator) c.loop-value.values.items
    c.loop-value.fragments.items
    (nil_from_length (into_iter_items c.loop-value.value-iterator)
    (sym c.loop-value.invariant.counted ∙ c.in-None.ensures.steps.0))
    c.loop-value.invariant.values c.loop-value.invariant.fragments

pub invariant_of-result : goal.invariant_of-result
invariant_of-result c =
    let are = columns (goal.at.invariant_of-result c).In-None in
    index_is c.args.rows.items c.loop-value.values.items c.loop-value.fragments.items are.0 are.1
    c.requires.rising c.requires.few

pub returns : goal.returns
returns c =
    let are = columns (goal.at.returns c).In-None in
    rows_are c.args.rows.items c.loop-value.values.items c.loop-value.fragments.items are.0 are.1
