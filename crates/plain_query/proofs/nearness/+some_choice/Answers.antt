use Rattle.std.proofs.Common.{◌∙◌}
use Rattle.plain_query.proofs.NearLemmas.{close_here, close_nowhere}
use Rattle.plain_query.proofs.nearness.+some_choice.Goals as goal

pub returns-then-branch : goal.returns-then-branch
returns-then-branch t c =
    let lists = c.args.children.now in
    let items = c.as_slice-start-items.result.now in
    let grown = c.as_slice.ensures ∙ c.in_ok-chosen.ensures in
    close_here c.args.distance c.args.ordered lists c.starts-item.result items c.args.chosen.now
    c.as_slice.result.now c.loop-start.start-index 0 c.in_ok-some_choice.field-0
    c.in-len1-up.len_at_least c.starts-item.is c.as_slice-start-items.ensures c.loop-start-test.true grown
    c.in_ok-some_choice.ensures c.if-branch.true

pub returns : goal.returns
returns t c =
    let lists = c.args.children.now in
    let items = c.as_slice-start-items.result.now in
    close_nowhere c.args.distance c.args.ordered lists c.starts-item.result items c.args.chosen.now
    c.loop-start.start-index c.in-len1-up.len_at_least c.starts-item.is c.as_slice-start-items.ensures
    c.loop-start-test.false c.loop-start.invariant
