use Rattle.std.proofs.Common.{◌≡◌, drop}
use Rattle.doc_model.specs.Queries.{no_index_twice}
use Rattle.doc_model.proofs.indexes.is_distinct.Given as goal

abbrev pub invariant-loop-i : goal.invariant-loop-i
invariant-loop-i l = no_index_twice (drop l.i l.list) ≡ no_index_twice l.list
