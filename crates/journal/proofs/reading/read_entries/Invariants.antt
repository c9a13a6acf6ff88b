use Rattle.std.proofs.Common.{◌-◌}
use Rattle.directory_reading.specs.Reading.{HasEntries}
use Rattle.journal.proofs.LogLoops.{IsReadSoFar}
use Rattle.journal.proofs.reading.read_entries.Given as goal

abbrev pub invariant-loop-entries : goal.invariant-loop-entries
invariant-loop-entries g l = IsReadSoFar g.D.Disk l.fn.disk l.disk l.file l.reader
    (λ bodies. HasEntries bodies l.entries)

abbrev pub decreases-loop-entries : goal.decreases-loop-entries
decreases-loop-entries g l = l.reader.len - l.reader.gate
