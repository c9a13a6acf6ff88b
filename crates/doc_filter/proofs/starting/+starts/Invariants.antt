use Rattle.std.proofs.Common.{◌≡◌, ◌++◌, flat_map, take}
use Rattle.doc_filter.specs.Conditions.{condition_meaning}
use Rattle.doc_filter.specs.Found.{AreOf}
use Rattle.doc_filter.proofs.starting.+starts.Given as goal

abbrev pub invariant-add_all_starts-loop-child : goal.invariant-add_all_starts-loop-child
invariant-add_all_starts-loop-child l = record {
  told : l.out
      ≡ l.fn.out ++ flat_map (λ c. (condition_meaning l.document c).starts) (take l.child-index l.children);
  kept : AreOf l.words l.document.root;
}
