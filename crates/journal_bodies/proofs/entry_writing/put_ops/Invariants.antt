use Rattle.std.proofs.Common.{◌≡◌, ◌++◌, take, true}
use Rattle.std.specs.List.{flat_map, list_all}
use Rattle.journal_bodies.specs.Entries.{has_values, op}
use Rattle.journal_bodies.proofs.entry_writing.put_ops.Given as goal

abbrev pub invariant-loop-value : goal.invariant-loop-value
invariant-loop-value l = record {
  written : l.out.items ≡ l.initial.out.items ++ flat_map op (take l.value-index l.list);
  values : list_all has_values (take l.value-index l.list) ≡ true;
}
