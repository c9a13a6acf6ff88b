use Rattle.std.proofs.Common.{length, ◌<◌, arith, ◌∙◌}
use Rattle.post_lists.proofs.Rising.{next_some}
use Rattle.post_lists.proofs.Skips.{kept_in}
use Rattle.post_lists.proofs.term_list.TermList.least_next.Goals as goal

pub returns-else-self-eq0 : goal.returns-else-self-eq0
returns-else-self-eq0 c =
    let i = c.self.inside in
    let items = c.args.self.now in
    let kept = kept_in i items c.self.view_is c.self.invariant in
    let some : 0 < length items = omega (arith, kept.counted, c.if-self-eq0.false) in
    next_some items c.from.result some (c.from.ensures ∙ kept.ended) kept.postings.rising
