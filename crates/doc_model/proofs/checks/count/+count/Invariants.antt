use Rattle.std.proofs.Common.{◌≡◌, ◌+◌, take, sum_by}
use Rattle.doc_model.specs.Queries.{query_count}
use Rattle.doc_model.proofs.checks.count.+count.Given as goal

abbrev pub invariant-charge_all-loop-query : goal.invariant-charge_all-loop-query
invariant-charge_all-loop-query l = l.rest + sum_by query_count (take l.query-index l.queries) ≡ l.left
