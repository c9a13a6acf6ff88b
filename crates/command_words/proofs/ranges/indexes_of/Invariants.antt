use Rattle.std.proofs.Common.{◌≡◌, map, take}
use Rattle.command_words.specs.Asked.{index_of}
use Rattle.command_words.proofs.ranges.indexes_of.Given as goal

abbrev pub invariant-loop-range : goal.invariant-loop-range
invariant-loop-range l = l.list.items ≡ map index_of (take l.range-index l.ranges)
