use Rattle.std.proofs.Common.{◌+◌, take, subst, sym}
use Rattle.std.proofs.lemmas.List.Elements.{all_zip_more}
use Rattle.doc_filter.specs.Windows.{IsSortedCopy}
use Rattle.doc_filter.proofs.NearLemmas.{AreSorted}
use Rattle.doc_filter.proofs.nearness.sorted_lists.Goals as goal

pub loop-numbers-preserved : goal.loop-numbers-preserved
loop-numbers-preserved c =
    let lists = c.args.lists.now in
    let i = c.loop-numbers.numbers-index in
    let sorted = c.in_ok-sorted_copy.field-0 in
    subst (AreSorted (take (i + 1) lists)) (sym c.in_ok-push.ensures.ok)
    (all_zip_more IsSortedCopy lists c.loop-numbers.out i c.numbers-item.result sorted c.loop-numbers-test.true
    c.numbers-item.is c.loop-numbers.invariant
    (subst (λ numbers. IsSortedCopy numbers sorted) c.as_slice.ensures c.in_ok-sorted_copy.ensures))
