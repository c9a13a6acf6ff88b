use Rattle.frame_log.specs.FramesRead.{log_file}
use Rattle.frame_log.proofs.ReadLemmas.{if_some}
use Rattle.journal.proofs.NextBodies.{not_found}
use Rattle.journal.proofs.reading.next_body.Goals as goal

pub returns-in-Err-clause-found : goal.returns-in-Err-clause-found
returns-in-Err-clause-found g c =
    rw c.scan_bad.ensures (if_some (g.D.Disk.seen c.args.disk.now) (rw c.in-Err.is at c.next.ensures.found)
    (λ image on bodies read. not_found c.args.file bodies (image (log_file c.args.reader.now)) c.in-Err.refusal
    (on bodies read)))
