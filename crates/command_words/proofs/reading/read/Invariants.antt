use Rattle.std.proofs.Common.{length, map, string_bytes}
use Rattle.command_words.specs.Reading.{ReadsSome}
use Rattle.command_words.proofs.reading.read.Given as goal

abbrev pub invariant-loop-argument : goal.invariant-loop-argument
invariant-loop-argument l = ReadsSome (map string_bytes l.words) l.reading (map string_bytes l.rest)

abbrev pub decreases-loop-argument : goal.decreases-loop-argument
decreases-loop-argument l = length l.rest
