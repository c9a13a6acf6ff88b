use Rattle.std.proofs.Common.{◌≡◌, drop, map, flat_map, not}
use Rattle.std.specs.List.{find}
use Rattle.doc_model.specs.Queries.{is_indexed, kinds_of}
use Rattle.doc_model.proofs.checks.ranges.missing_in_range.Given as goal

abbrev pub invariant-loop-name : goal.invariant-loop-name
invariant-loop-name l = find (λ index. not (is_indexed l.indexes index))
    (flat_map (λ name. map (λ k. (name, k)) (kinds_of l.values)) (drop l.name-index l.name-items)) ≡ find
    (λ index. not (is_indexed l.indexes index)) (flat_map (λ name. map (λ k. (name, k)) (kinds_of l.values)) l.names)
