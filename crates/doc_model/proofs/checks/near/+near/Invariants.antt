use Rattle.std.proofs.Common.{◌≡◌, drop}
use Rattle.std.specs.List.{list_all}
use Rattle.doc_model.specs.Queries.{fits}
use Rattle.doc_model.proofs.checks.near.+near.Given as goal

abbrev pub invariant-all_fit-loop-query : goal.invariant-all_fit-loop-query
invariant-all_fit-loop-query l =
    list_all (λ q. fits q l.in_near) (drop l.query-index l.queries) ≡ list_all (λ q. fits q l.in_near) l.queries
