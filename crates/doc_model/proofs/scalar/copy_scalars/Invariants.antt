use Rattle.std.proofs.Common.{◌≡◌, take}
use Rattle.doc_model.proofs.scalar.copy_scalars.Given as goal

abbrev pub invariant-loop-scalar : goal.invariant-loop-scalar
invariant-loop-scalar l = l.out ≡ take l.scalar-index l.scalars
