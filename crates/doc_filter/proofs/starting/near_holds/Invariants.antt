use Rattle.std.proofs.Common.{◌≡◌, map, take}
use Rattle.doc_filter.specs.Conditions.{condition_meaning}
use Rattle.doc_filter.specs.Found.{AreOf}
use Rattle.doc_filter.proofs.starting.near_holds.Given as goal

abbrev pub invariant-loop-child : goal.invariant-loop-child
invariant-loop-child l = record {
  told : l.all ≡ map (λ c. (condition_meaning l.document c).starts) (take l.child-index l.children);
  kept : AreOf l.words l.document.root;
}
