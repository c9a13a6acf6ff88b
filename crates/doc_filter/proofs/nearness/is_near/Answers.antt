use Rattle.std.proofs.Common.{All, subst, sym, ap, ◌∙◌}
use Rattle.std.specs.List.Sorted.{IsNonDecreasing}
use Rattle.doc_meaning.specs.Near.{is_near}
use Rattle.doc_filter.proofs.NearLemmas.{all_in_order, near_sorted}
use Rattle.doc_filter.proofs.nearness.is_near.Goals as goal

pub is_near_sorted-requires : goal.is_near_sorted-requires
is_near_sorted-requires c =
    subst (All IsNonDecreasing) (sym c.as_slice.ensures)
    (all_in_order c.args.children.now c.in_ok-sorted.sorted c.in_ok-sorted.ensures)

pub returns : goal.returns
returns c =
    c.is_near_sorted.ensures ∙ ap (is_near c.args.distance c.args.ordered) c.as_slice.ensures
    ∙ near_sorted c.args.distance c.args.ordered c.args.children.now c.in_ok-sorted.sorted c.in_ok-sorted.ensures
