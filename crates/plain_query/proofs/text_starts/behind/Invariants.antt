use Rattle.std.proofs.Common.{◌≡◌, ◌+◌, map, take}
use Rattle.plain_query.proofs.text_starts.behind.Given as goal

abbrev pub invariant-loop-j : goal.invariant-loop-j
invariant-loop-j l = l.out ≡ map (λ j. l.first_position + j) (take l.j-index l.positions)
