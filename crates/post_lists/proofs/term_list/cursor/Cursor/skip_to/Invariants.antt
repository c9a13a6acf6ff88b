use Rattle.std.proofs.Common.{◌≡◌, length, nat_le}
use Rattle.std.specs.List.{filter}
use Rattle.std.specs.List.Sorted.{IsStrictlyIncreasing}
use Rattle.post_lists.proofs.term_list.cursor.Cursor.skip_to.Given as goal

abbrev pub invariant-loop-self : goal.invariant-loop-self
invariant-loop-self l = record {
  same : filter (nat_le l.least) l.self ≡ filter (nat_le l.least) l.fn.self;
  rising : IsStrictlyIncreasing l.self;
}

abbrev pub decreases-loop-self : goal.decreases-loop-self
decreases-loop-self l = length l.self
