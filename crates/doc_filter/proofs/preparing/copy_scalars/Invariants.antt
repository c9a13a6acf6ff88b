use Rattle.std.proofs.Common.{◌≡◌, take}
use Rattle.doc_filter.proofs.preparing.copy_scalars.Given as goal

abbrev pub invariant-loop-scalar : goal.invariant-loop-scalar
invariant-loop-scalar l = l.out ≡ take l.scalar-index l.scalars
