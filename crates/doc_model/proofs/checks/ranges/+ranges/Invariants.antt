use Rattle.std.proofs.Common.{◌≡◌, drop, flat_map, not}
use Rattle.std.specs.List.{find}
use Rattle.doc_model.specs.Queries.{is_indexed, wanted_indexes}
use Rattle.doc_model.proofs.checks.ranges.+ranges.Given as goal

abbrev pub invariant-missing_in_any-loop-query : goal.invariant-missing_in_any-loop-query
invariant-missing_in_any-loop-query l = find (λ index. not (is_indexed l.indexes index))
    (flat_map wanted_indexes (drop l.query-index l.query-items)) ≡ find (λ index. not (is_indexed l.indexes index))
    (flat_map wanted_indexes l.queries)
