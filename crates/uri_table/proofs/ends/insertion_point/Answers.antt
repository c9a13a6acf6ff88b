use Rattle.std.proofs.Common.{ap, sym, ◌∙◌, rules}
use Rattle.std.specs.Cmp.Lexicographic.{slice_cmp}
use Rattle.std.specs.Ordering.{is_lt, nat_cmp}
use Rattle.std.proofs.lemmas.Bool.{false≢true}
use Rattle.std.proofs.lemmas.List.Sorted.{IsPartitionPoint-from_clause}
use Rattle.uri_table.specs.Rows.{Row}
use Rattle.uri_table.proofs.Orders.{less_is}
use Rattle.uri_table.proofs.Rising.{parted_below}
use Rattle.uri_table.proofs.ends.insertion_point.Goals as goal

pub returns : goal.returns
returns c =
    let text = c.args.text.now in
    let rows = c.args.rows.now in
    let point = IsPartitionPoint-from_clause (λ (row : Row). is_lt (slice_cmp nat_cmp row.0 text)) _ _
    c.partition_point.ensures.partitioned (parted_below rows c.requires.rising text) (λ a r q k. search rules) in
    record {
      within = c.partition_point.ensures.bound;
      before = λ k d low high. less_is _ (point.0 k d low high);
      after = λ k d low high less. false≢true (sym (point.1 k d low high) ∙ ap is_lt less);
    }
