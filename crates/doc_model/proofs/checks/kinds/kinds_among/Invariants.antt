use Rattle.std.proofs.Common.{◌++◌, drop}
use Rattle.doc_model.specs.Kinds.{FindAlike, listed}
use Rattle.doc_model.specs.Queries.{kinds_of}
use Rattle.doc_model.proofs.checks.kinds.kinds_among.Given as goal

abbrev pub invariant-loop-value : goal.invariant-loop-value
invariant-loop-value l = FindAlike (listed l.kinds ++ kinds_of (drop l.value-index l.value-items)) (kinds_of l.values)
