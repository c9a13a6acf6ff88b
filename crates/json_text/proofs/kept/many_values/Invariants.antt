use Rattle.std.proofs.Common.{◌≡◌}
use Rattle.json_text.specs.Grammar.{last_values}
use Rattle.json_text.specs.Places.{Places}
use Rattle.json_text.proofs.kept.many_values.Given as goal

abbrev pub invariant-loop-name : goal.invariant-loop-name
invariant-loop-name l = record {
  kept : l.kept.items ≡ last_values l.yielded;
  places : Places l.places l.kept.items;
}
