use Rattle.std.proofs.Common.{refl, IfSome, drop, arith}
use Rattle.frame_log.specs.Scanned.{BeginsWith}
use Rattle.frame_log.proofs.ReadLemmas.{if_some}
use Rattle.frame_log.proofs.ScanLemmas.{read_more}
use Rattle.frame_log.proofs.frame_reader.FrameReader.next.Goals as goal

pub returns-clause-found : goal.returns-clause-found
returns-clause-found g c =
    let reader = c.args.self.now in
    let body = c.in-Some.body in
    let begins : IfSome (g.D.Disk.seen c.args.disk.now) (λ image. BeginsWith body.items
    (drop reader.gate (image reader.file))) = rw c.in-Some.is at c.in_ok-body.ensures.found in
    if_some (g.D.Disk.seen c.args.disk.now) begins (λ image begins bodies read.
    read_more reader bodies (image reader.file) read _ body.items begins
    (record { same_file = refl; same_length = refl; gate = omega arith; inside = omega arith; short = omega arith }))
