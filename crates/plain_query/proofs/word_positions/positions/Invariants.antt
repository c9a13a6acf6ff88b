use Rattle.std.proofs.Common.{◌≡◌, drop, filter}
use Rattle.std.specs.List.{starts_with, range_with_len}
use Rattle.std.specs.Str.{bytes_eq}
use Rattle.plain_query.proofs.word_positions.positions.Given as goal

abbrev pub invariant-loop-j : goal.invariant-loop-j
invariant-loop-j l = l.out ≡ filter (λ j. starts_with bytes_eq (drop j l.seen) l.wanted) (range_with_len 0 l.j)
