use Rattle.std.proofs.Common.{arith}
use Rattle.frame_log.proofs.ReadLemmas.{if_some, read_on}
use Rattle.frame_log.proofs.reading.read_more.Goals as goal

pub returns-clause-bytes : goal.returns-clause-bytes
returns-clause-bytes g c =
    if_some (g.D.Disk.seen c.args.disk.now) c.in_ok-count.ensures.bytes (λ image reads is.
    read_on (image c.args.file) c.args.place c.args.done c.in_ok-count.count c.args.out.now c.read_at.new.out _
    (omega arith) (omega (arith, c.in_ok-count.ensures.bound)) reads.read is)
