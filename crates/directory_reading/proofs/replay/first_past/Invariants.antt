use Rattle.std.proofs.Common.{◌≡◌, [], take}
use Rattle.directory_meaning.specs.Bodies.{past}
use Rattle.directory_reading.proofs.replay.first_past.Given as goal

abbrev pub invariant-loop-entry : goal.invariant-loop-entry
invariant-loop-entry l = past l.checkpoint (take l.entry-index l.entries) ≡ []
