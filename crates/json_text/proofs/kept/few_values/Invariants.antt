use Rattle.std.proofs.Common.{◌≡◌}
use Rattle.json_text.specs.Grammar.{last_values}
use Rattle.json_text.proofs.kept.few_values.Given as goal

abbrev pub invariant-loop-name : goal.invariant-loop-name
invariant-loop-name l = l.kept.items ≡ last_values l.yielded
