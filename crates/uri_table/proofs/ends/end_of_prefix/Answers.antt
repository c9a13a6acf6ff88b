use Rattle.std.proofs.Common.{length, rules}
use Rattle.std.specs.Ordering.{is_le}
use Rattle.std.proofs.lemmas.List.Sorted.{IsPartitionPoint-from_clause}
use Rattle.uri_table.specs.Rows.{Row}
use Rattle.uri_table.specs.Ends.{head_order}
use Rattle.uri_table.proofs.Rising.{heads_parted_upto}
use Rattle.uri_table.proofs.ends.end_of_prefix.Goals as goal

pub returns : goal.returns
returns c =
    let prefix = c.args.prefix.now in
    let parted = heads_parted_upto c.args.rows.now c.requires.rising (length prefix) prefix in
    let point = IsPartitionPoint-from_clause (λ (row : Row). is_le (head_order prefix row)) _ _
    c.partition_point.ensures.partitioned parted (λ a r q k. search rules) in
    record { within = c.partition_point.ensures.bound; before = point.0; after = point.1 }
