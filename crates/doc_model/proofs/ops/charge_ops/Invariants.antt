use Rattle.std.proofs.Common.{◌≡◌, ◌+◌, take, sum_by}
use Rattle.doc_model.specs.Operations.{op_size}
use Rattle.doc_model.proofs.ops.charge_ops.Given as goal

abbrev pub invariant-loop-op : goal.invariant-loop-op
invariant-loop-op l = l.rest + sum_by op_size (take l.op-index l.list) ≡ l.left
