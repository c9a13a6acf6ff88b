use Rattle.std.proofs.Common.{◌≡◌, drop, map}
use Rattle.doc_model.specs.Operations.{uri_of}
use Rattle.doc_model.specs.Tree.{is_among}
use Rattle.plain_history.proofs.commits.is_named.Given as goal

abbrev pub invariant-loop-op : goal.invariant-loop-op
invariant-loop-op l = is_among (map uri_of (drop l.op-index l.ops)) l.uri ≡ is_among (map uri_of l.ops) l.uri
