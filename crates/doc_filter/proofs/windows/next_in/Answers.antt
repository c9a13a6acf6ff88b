use Rattle.std.proofs.Common.{ltb, subst, sym, ◌∙◌, rules}
use Rattle.std.proofs.lemmas.List.Sorted.{IsPartitionPoint-from_clause, IsPartitionedBy-ltb}
use Rattle.doc_filter.specs.Windows.{FindsNext, floor}
use Rattle.doc_filter.proofs.WindowLemmas.{next_found}
use Rattle.doc_filter.proofs.windows.next_in.Goals as goal

pub returns : goal.returns
returns c =
    let numbers = c.args.numbers.now in
    let low = floor c.args.bound in
    let place = c.partition_point-place.result in
    let parted = IsPartitionedBy-ltb (λ n. n) numbers low c.requires in
    let point = IsPartitionPoint-from_clause (λ n. ltb n low) numbers place
    c.partition_point-place.ensures.partitioned parted (λ a r q k. search rules) in
    subst (FindsNext numbers low) (sym (c.copied.ensures ∙ c.at.ensures))
    (next_found numbers low place c.requires point)
