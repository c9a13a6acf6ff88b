use Rattle.std.proofs.Common.{◌≡◌, map, take}
use Rattle.plain_query.proofs.meanings.starts_of.Given as goal

abbrev pub invariant-loop-m : goal.invariant-loop-m
invariant-loop-m l = l.out ≡ map (λ q. q.starts) (take l.m-index l.meanings)
