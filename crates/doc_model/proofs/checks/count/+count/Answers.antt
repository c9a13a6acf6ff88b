use Rattle.std.proofs.Common.{arith, ap, ◌∙◌}
use Rattle.doc_model.specs.Queries.{query_count}
use Rattle.doc_model.proofs.QueryFolds.{count_near}
use Rattle.doc_model.proofs.checks.count.+count.Goals as goal

pub charge-returns-in-Near : goal.charge-returns-in-Near
charge-returns-in-Near t c =
    let counted = ap query_count c.in-Near.is ∙ count_near c.in-Near.queries c.in-Near.distance c.in-Near.ordered in
    grind (arith, counted)
