use Rattle.std.proofs.Common.{◌≡◌, [], filter}
use Rattle.std.specs.List.{range_with_len}
use Rattle.doc_filter.proofs.RunLemmas.{starts_at}
use Rattle.doc_filter.proofs.word_runs.occur_in.Given as goal

abbrev pub invariant-loop-j : goal.invariant-loop-j
invariant-loop-j l = filter (starts_at l.wanted l.seen) (range_with_len 0 l.j) ≡ []
