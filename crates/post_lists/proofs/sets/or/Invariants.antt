use Rattle.std.proofs.Common.{◌≡◌, ◌+◌, ◌++◌, ◌||◌, ℕ, length}
use Rattle.std.specs.List.Sorted.{IsStrictlyIncreasing}
use Rattle.post_lists.specs.Sets.{has}
use Rattle.post_lists.proofs.sets.or.Given as goal

abbrev pub invariant-loop-item : goal.invariant-loop-item
invariant-loop-item l = record {
  all : (x : ℕ) → (has l.list x || (has l.left x || has l.right x)) ≡ (has l.a x || has l.b x);
  left_rising : IsStrictlyIncreasing (l.list ++ l.left);
  right_rising : IsStrictlyIncreasing (l.list ++ l.right);
}

abbrev pub decreases-loop-item : goal.decreases-loop-item
decreases-loop-item l = length l.left + length l.right
