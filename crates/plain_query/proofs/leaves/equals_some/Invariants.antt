use Rattle.std.proofs.Common.{◌≡◌, false, take}
use Rattle.std.specs.List.{list_any}
use Rattle.doc_meaning.specs.Values.{scalar_equals}
use Rattle.plain_query.proofs.leaves.equals_some.Given as goal

abbrev pub invariant-loop-value : goal.invariant-loop-value
invariant-loop-value l = list_any (λ g. scalar_equals l.case l.exact l.scalar g) (take l.value-index l.wanted) ≡ false
