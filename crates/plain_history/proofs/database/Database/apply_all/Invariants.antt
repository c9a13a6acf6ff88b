use Rattle.std.proofs.Common.{◌≡◌, drop}
use Rattle.doc_meaning.specs.History.{after_ops}
use Rattle.plain_history.proofs.database.Database.apply_all.Given as goal

abbrev pub invariant-loop-op : goal.invariant-loop-op
invariant-loop-op l = after_ops l.at (drop l.op-index l.ops) l.self ≡ after_ops l.at l.ops l.fn.self
