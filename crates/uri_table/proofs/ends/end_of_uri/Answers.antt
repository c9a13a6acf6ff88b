use Rattle.std.proofs.Common.{rules}
use Rattle.std.specs.Ordering.{is_le}
use Rattle.std.proofs.lemmas.List.Sorted.{IsPartitionPoint-from_clause}
use Rattle.uri_table.specs.Rows.{Row}
use Rattle.uri_table.specs.Ends.{uri_order}
use Rattle.uri_table.proofs.Rising.{parted_upto}
use Rattle.uri_table.proofs.ends.end_of_uri.Goals as goal

pub returns : goal.returns
returns c =
    let point = IsPartitionPoint-from_clause (λ (row : Row). is_le (uri_order c.args.uri.now row)) _ _
    c.partition_point.ensures.partitioned (parted_upto c.args.rows.now c.requires.rising c.args.uri.now)
    (λ a r q k. search rules) in
    record { within = c.partition_point.ensures.bound; before = point.0; after = point.1 }
