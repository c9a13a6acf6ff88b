use Rattle.std.proofs.Common.{ltb, ltb-true, ltb-false, rules}
use Rattle.std.proofs.lemmas.Cmp.{nat_list_cmp_total}
use Rattle.std.proofs.lemmas.List.Sorted.{IsPartitionPoint-from_clause, IsPartitionedBy-ltb, searchable_from_sorted}
use Rattle.std.specs.Ordering.{ordering_index}
use Rattle.range_index.specs.Rows.{value_cmp}
use Rattle.range_index.proofs.groups.first_from.Goals as goal

pub returns : goal.returns
returns c =
    let values = c.args.values.now in
    let given = c.args.value.now in
    let from = ordering_index c.args.from in
    let row = c.partition_point.result in
    let rises = searchable_from_sorted nat_list_cmp_total (λ value. value) values given c.requires in
    let parted = IsPartitionedBy-ltb (λ value. ordering_index (value_cmp value given)) values from rises in
    let point = IsPartitionPoint-from_clause (λ value. ltb (ordering_index (value_cmp value given)) from) values row
    c.partition_point.ensures.partitioned parted (λ a r q k. search rules) in (
      c.partition_point.ensures.bound,
      (λ k d low lt. ltb-true _ _ (point.0 k d low lt), λ k d low lt. ltb-false _ _ (point.1 k d low lt)),
    )
