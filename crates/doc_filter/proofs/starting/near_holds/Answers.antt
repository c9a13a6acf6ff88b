use Rattle.std.proofs.Common.{◌≡◌, ◌++◌, [], sym, ap, ◌∙◌}
use Rattle.doc_filter.specs.Conditions.{condition_meaning}
use Rattle.doc_filter.proofs.NearLemmas.{near_without}
use Rattle.doc_filter.proofs.starting.near_holds.Goals as goal

pub returns-then-is_empty-clause-answer : goal.returns-then-is_empty-clause-answer
returns-then-is_empty-clause-answer c =
    let starts = (condition_meaning c.args.document.now c.child-item.result).starts in
    let none : starts ≡ [] =
    sym (c.in_ok-add_starts.ensures.starts ∙ ap (λ ns. ns ++ starts) c.new-starts.ensures)
    ∙ c.is_empty.ensures.0 c.if-is_empty.true in
    near_without c.args.distance c.args.ordered (λ q. (condition_meaning c.args.document.now q).starts)
    c.args.children.now c.as_slice-child-items.result.now c.loop-child.child-index c.child-item.result
    c.as_slice-child-items.ensures c.loop-child-test.true c.child-item.is none
