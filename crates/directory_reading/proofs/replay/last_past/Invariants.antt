use Rattle.std.proofs.Common.{◌≡◌, take}
use Rattle.directory_meaning.specs.Bodies.{last_of, past}
use Rattle.directory_reading.proofs.replay.last_past.Given as goal

abbrev pub invariant-loop-entry : goal.invariant-loop-entry
invariant-loop-entry l = l.last ≡ last_of (past l.checkpoint (take l.entry-index l.entries))
