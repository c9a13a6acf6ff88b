use Rattle.std.proofs.Common.{◌≡◌, ◌++◌, length}
use Rattle.std.specs.List.{filter}
use Rattle.std.specs.List.Sorted.{IsStrictlyIncreasing}
use Rattle.post_lists.specs.Sets.{chosen, has}
use Rattle.post_lists.proofs.sets.chosen.Given as goal

abbrev pub invariant-loop-item : goal.invariant-loop-item
invariant-loop-item l = record {
  told : l.list ++ filter (λ x. chosen l.there (has l.others x)) l.items
      ≡ filter (λ x. chosen l.there (has l.b x)) l.a;
  rising : IsStrictlyIncreasing (l.list ++ l.items);
  others_rising : IsStrictlyIncreasing l.others;
}

abbrev pub decreases-loop-item : goal.decreases-loop-item
decreases-loop-item l = length l.items
