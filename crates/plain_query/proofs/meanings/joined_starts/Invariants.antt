use Rattle.std.proofs.Common.{◌≡◌, flat_map, take}
use Rattle.plain_query.proofs.meanings.joined_starts.Given as goal

abbrev pub invariant-loop-m : goal.invariant-loop-m
invariant-loop-m l = l.starts ≡ flat_map (λ q. q.starts) (take l.m-index l.meanings)
