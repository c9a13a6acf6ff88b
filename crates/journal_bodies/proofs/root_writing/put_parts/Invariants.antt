use Rattle.std.proofs.Common.{◌≡◌, ◌++◌, ◌^◌, nat_lt, take, true}
use Rattle.std.specs.List.{flat_map, list_all}
use Rattle.journal_bodies.specs.Roots.{part}
use Rattle.journal_bodies.proofs.root_writing.put_parts.Given as goal

abbrev pub invariant-loop-value : goal.invariant-loop-value
invariant-loop-value l = record {
  written : l.out.items ≡ l.initial.out.items ++ flat_map part (take l.value-index l.list);
  ranges : list_all (λ p. nat_lt p.fragments (2 ^ 32)) (take l.value-index l.list) ≡ true;
}
