use Rattle.std.proofs.Common.{drop}
use Rattle.doc_filter.specs.Windows.{floor}
use Rattle.doc_filter.proofs.WindowLemmas.{Leads}
use Rattle.doc_filter.proofs.windows.least_end.Given as goal

abbrev pub invariant-loop-child : goal.invariant-loop-child
invariant-loop-child l =
    Leads l.ordered (floor l.fn.from) l.children (floor l.bound) l.end (drop l.child-index l.children)
