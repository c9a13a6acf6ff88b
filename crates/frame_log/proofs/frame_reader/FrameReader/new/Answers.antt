use Rattle.std.proofs.Common.{refl, arith}
use Rattle.frame_log.proofs.ReadLemmas.{if_some}
use Rattle.frame_log.proofs.ScanLemmas.{read_first}
use Rattle.frame_log.proofs.frame_reader.FrameReader.new.Goals as goal

pub returns-clause-first : goal.returns-clause-first
returns-clause-first g c =
    if_some (g.D.Disk.seen c.args.disk.now) c.in_ok-len.ensures.bytes (λ image all.
    read_first _ (image c.args.file) refl all (omega (arith, c.if-len-eq0.false)))
