use Rattle.std.proofs.Common.{◌≤◌, ◌-◌, arith}
use Rattle.doc_filter.proofs.NearLemmas.{leap, near_nowhere, near_there}
use Rattle.doc_filter.proofs.windows.is_near_sorted.Goals as goal

pub returns-then-saturating_sub-reach : goal.returns-then-saturating_sub-reach
returns-then-saturating_sub-reach c =
    let within : c.in-Some.end - c.loop-end.low ≤ c.args.distance = omega arith in
    near_there c.args.distance c.args.ordered c.args.children.now c.loop-end.low c.in-Some.end c.in-Some.ensures within

pub loop-end-preserved : goal.loop-end-preserved
loop-end-preserved c =
    leap c.args.distance c.args.ordered c.args.children.now c.loop-end.low c.in-Some.end c.loop-end.invariant
    c.in-Some.ensures

pub returns : goal.returns
returns c =
    near_nowhere c.args.distance c.args.ordered c.args.children.now c.loop-end.low c.loop-end.invariant
    c.in_default.ensures
