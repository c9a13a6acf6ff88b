use Rattle.std.proofs.Common.{◌-◌}
use Rattle.frame_log.specs.Scanned.{bodies_of}
use Rattle.frame_log.proofs.ScanLemmas.{IsScanned}
use Rattle.frame_log.proofs.scanning.scan.Given as goal

abbrev pub invariant-frames : goal.invariant-frames
invariant-frames g l = IsScanned g.D.Disk
    l.fn.disk l.disk l.file l.reader (bodies_of l.bodies)

abbrev pub decreases-frames : goal.decreases-frames
decreases-frames g l = l.reader.len - l.reader.gate
