use Rattle.std.proofs.Common.{◌≡◌, true, false, take}
use Rattle.std.specs.List.{list_any, list_all}
use Rattle.doc_filter.specs.Conditions.{is_met}
use Rattle.doc_filter.specs.Found.{AreOf}
use Rattle.doc_filter.proofs.holding.+holds.Given as goal

abbrev pub invariant-all_hold-loop-child : goal.invariant-all_hold-loop-child
invariant-all_hold-loop-child l = record {
  told : list_all (λ c. is_met c l.document) (take l.child-index l.children) ≡ true;
  kept : AreOf l.words l.document.root;
}

abbrev pub invariant-some_holds-loop-child : goal.invariant-some_holds-loop-child
invariant-some_holds-loop-child l = record {
  told : list_any (λ c. is_met c l.document) (take l.child-index l.children) ≡ false;
  kept : AreOf l.words l.document.root;
}
