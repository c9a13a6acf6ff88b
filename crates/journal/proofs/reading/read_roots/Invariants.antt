use Rattle.std.proofs.Common.{◌-◌}
use Rattle.directory_reading.specs.Reading.{HasNewest}
use Rattle.journal.proofs.LogLoops.{IsReadSoFar}
use Rattle.journal.proofs.reading.read_roots.Given as goal

abbrev pub invariant-loop-roots : goal.invariant-loop-roots
invariant-loop-roots g l = IsReadSoFar g.D.Disk l.fn.disk l.disk l.file l.reader
    (λ bodies. HasNewest l.file bodies l.roots.newest)

abbrev pub decreases-loop-roots : goal.decreases-loop-roots
decreases-loop-roots g l = l.reader.len - l.reader.gate
