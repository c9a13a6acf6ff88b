use Rattle.std.proofs.Common.{take}
use Rattle.doc_filter.specs.Conditions.{MeanQueries}
use Rattle.doc_filter.proofs.preparing.+prepare.Given as goal

abbrev pub invariant-prepare_all-loop-query : goal.invariant-prepare_all-loop-query
invariant-prepare_all-loop-query l = MeanQueries l.out (take l.query-index l.queries)
