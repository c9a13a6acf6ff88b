use Rattle.std.proofs.Common.{◌≡◌, map, take}
use Rattle.cts_meaning.specs.Shapes.{scalar_node}
use Rattle.cts_text.proofs.objects.scalars_node.Given as goal

abbrev pub invariant-loop-scalar : goal.invariant-loop-scalar
invariant-loop-scalar l = l.items ≡ map scalar_node (take l.scalar-index l.scalars)
