use Rattle.std.proofs.Common.{take}
use Rattle.directory_meaning.specs.Bodies.{past}
use Rattle.directory_reading.specs.Walking.{Reads}
use Rattle.directory_reading.proofs.walk.walk.Given as goal

abbrev pub invariant-loop-k : goal.invariant-loop-k
invariant-loop-k l = Reads l.fn.from (past l.checkpoint (take l.k l.entries)) l.front
