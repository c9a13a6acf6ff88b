use Rattle.std.proofs.Common.{◌-◌, length}
use Rattle.frame_log.proofs.ReadLemmas.{IsFilled}
use Rattle.frame_log.proofs.reading.fill.Given as goal

abbrev pub invariant-loop-done : goal.invariant-loop-done
invariant-loop-done g l = IsFilled g.D.Disk
    l.fn.disk l.disk l.file l.place l.done l.fn.out l.out

abbrev pub decreases-loop-done : goal.decreases-loop-done
decreases-loop-done g l = length l.fn.out - l.done
