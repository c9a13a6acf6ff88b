use Rattle.std.proofs.Common.{◌≡◌, drop}
use Rattle.cts_meaning.specs.Saying.{value_of}
use Rattle.cts_text.proofs.values.value_of.Given as goal

abbrev pub invariant-loop-member : goal.invariant-loop-member
invariant-loop-member l = value_of l.name (drop l.member-index l.members) ≡ value_of l.name l.members
