use Rattle.std.proofs.Common.{arith, ap, ◌∙◌}
use Rattle.doc_model.specs.Queries.{query_depth}
use Rattle.doc_model.proofs.QueryFolds.{depth_near}
use Rattle.doc_model.proofs.checks.depth.+query_within.Goals as goal

pub is_within-returns-in-Near : goal.is_within-returns-in-Near
is_within-returns-in-Near t c =
    let deep = ap query_depth c.in-Near.is ∙ depth_near c.in-Near.queries c.in-Near.distance c.in-Near.ordered in
    (λ h. omega (arith, deep, c.all_within-in-Near.ensures.0 h), λ h. c.all_within-in-Near.ensures.1 (omega (arith, deep)))
