use Rattle.std.proofs.Common.{◌≡◌, drop}
use Rattle.std.specs.List.{find}
use Rattle.doc_meaning.specs.Replies.{differs}
use Rattle.plain_history.proofs.commits.first_conflict.Given as goal

abbrev pub invariant-loop-op : goal.invariant-loop-op
invariant-loop-op l = find (differs l.live) (drop l.op-index l.ops) ≡ find (differs l.live) l.ops
