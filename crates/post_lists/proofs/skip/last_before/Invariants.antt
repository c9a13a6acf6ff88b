use Rattle.std.proofs.Common.{◌-◌, ◌<◌, ◌≤◌, length}
use Rattle.post_lists.specs.Keeping.{IsBefore}
use Rattle.post_lists.proofs.skip.last_before.Given as goal

abbrev pub invariant-loop-high : goal.invariant-loop-high
invariant-loop-high l = record {
  found : IsBefore l.skips l.from l.least l.low;
  above : l.low < l.high;
  within : l.high ≤ length l.skips;
}

abbrev pub decreases-loop-high : goal.decreases-loop-high
decreases-loop-high l = l.high - l.low
