use Rattle.std.proofs.Common.{◌≡◌, ◌++◌, take, flat_map}
use Rattle.cts_text.specs.Values.{own_scalar}
use Rattle.cts_text.proofs.values.put_scalars.Given as goal

abbrev pub invariant-loop-item : goal.invariant-loop-item
invariant-loop-item l = l.out ≡ l.fn.out ++ flat_map own_scalar (take l.item-index l.items)
