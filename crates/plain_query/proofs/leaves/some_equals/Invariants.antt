use Rattle.std.proofs.Common.{◌≡◌, false, take}
use Rattle.doc_meaning.specs.Meaning.{some_pair}
use Rattle.doc_meaning.specs.Values.{scalar_equals}
use Rattle.plain_query.proofs.leaves.some_equals.Given as goal

abbrev pub invariant-loop-scalar : goal.invariant-loop-scalar
invariant-loop-scalar l = some_pair (scalar_equals l.case l.exact) (take l.scalar-index l.found) l.wanted ≡ false
