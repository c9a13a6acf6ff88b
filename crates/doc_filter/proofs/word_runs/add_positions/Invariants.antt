use Rattle.std.proofs.Common.{◌≡◌, ◌+◌, ◌++◌, filter, map}
use Rattle.std.specs.List.{range_with_len}
use Rattle.doc_filter.proofs.RunLemmas.{starts_at}
use Rattle.doc_filter.proofs.word_runs.add_positions.Given as goal

abbrev pub invariant-loop-place : goal.invariant-loop-place
invariant-loop-place l =
    l.out ≡ l.fn.out ++ map (λ j. l.first_position + j) (filter (starts_at l.wanted l.seen) (range_with_len 0 l.place))
