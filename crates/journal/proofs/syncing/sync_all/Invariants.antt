use Rattle.std.proofs.Common.{◌≡◌, ◌≤◌, IsSome}
use Rattle.disk_model.specs.Stretches.{OnlyRead}
use Rattle.journal.specs.Reading.{AreSettled}
use Rattle.journal.proofs.syncing.sync_all.Given as goal

abbrev pub invariant-loop-file : goal.invariant-loop-file
invariant-loop-file g l = record {
  settled : AreSettled l.file (g.D.Disk.seen l.disk) (g.D.Disk.may_leave l.disk);
  read : IsSome (g.D.Disk.seen l.fn.disk) → OnlyRead g.D.Disk l.fn.disk l.disk;
  seen : g.D.Disk.seen l.disk ≡ g.D.Disk.seen l.fn.disk;
  later : g.D.Disk.faults l.fn.disk ≤ g.D.Disk.faults l.disk;
}
