use Rattle.std.proofs.Common.{take}
use Rattle.doc_filter.specs.Scalars.{AreValues}
use Rattle.doc_filter.proofs.values.Values.new.Given as goal

abbrev pub invariant-loop-value : goal.invariant-loop-value
invariant-loop-value l = AreValues l.made l.case l.exact (take l.value-index l.values)
