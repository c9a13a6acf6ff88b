use Rattle.std.proofs.Common.{◌≤◌, ◌↔◌, drop, map}
use Rattle.doc_model.specs.Tree.{greatest}
use Rattle.doc_model.specs.Queries.{query_depth}
use Rattle.doc_model.proofs.checks.depth.+query_within.Given as goal

abbrev pub invariant-all_within-loop-query : goal.invariant-all_within-loop-query
invariant-all_within-loop-query l = (greatest (map query_depth (drop l.query-index l.queries)) ≤ l.limit) ↔
    (greatest (map query_depth l.queries) ≤ l.limit)
