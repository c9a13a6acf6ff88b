use Rattle.std.proofs.Common.{◌≡◌, ◌++◌, take, true}
use Rattle.std.specs.List.{flat_map, list_all}
use Rattle.std.specs.Str.{is_utf8}
use Rattle.journal_bodies.specs.Roots.{index}
use Rattle.journal_bodies.proofs.root_writing.put_indexes.Given as goal

abbrev pub invariant-loop-value : goal.invariant-loop-value
invariant-loop-value l = record {
  written : l.out.items ≡ l.initial.out.items ++ flat_map index (take l.value-index l.list);
  utf8 : list_all (λ i. is_utf8 i.0) (take l.value-index l.list) ≡ true;
}
