use Rattle.std.proofs.Common.{◌-◌, ◌^◌}
use Rattle.doc_filter.proofs.NearLemmas.{NoneBelow}
use Rattle.doc_filter.proofs.windows.is_near_sorted.Given as goal

abbrev pub invariant-loop-end : goal.invariant-loop-end
invariant-loop-end l = NoneBelow l.distance l.ordered l.children l.low

abbrev pub decreases-loop-end : goal.decreases-loop-end
decreases-loop-end l = 2 ^ 64 - l.low
