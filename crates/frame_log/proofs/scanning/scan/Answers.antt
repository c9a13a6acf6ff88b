use Rattle.std.proofs.Common.{◌≡◌, ◌∙◌, ◌++◌, [], ◌∷◌, ap, subst, ℕ, IfSome, Vec, arith}
use Rattle.std.proofs.lemmas.List.{map-append}
use Rattle.std.specs.declared.alloc.Global.{Global}
use Rattle.frame_log.specs.FramesRead.{log_file, HasRead, MovesPast}
use Rattle.frame_log.specs.Scanned.{bodies_of, Opens}
use Rattle.frame_log.proofs.Bytes.{length-framed-push}
use Rattle.frame_log.proofs.ReadLemmas.{if_some, if_some_both, only_read_more}
use Rattle.frame_log.proofs.ScanLemmas.{scanned_whole}
use Rattle.frame_log.proofs.scanning.scan.Goals as goal

pub frames-preserved : goal.frames-preserved
frames-preserved g c =
    let far = c.frames.invariant in
    let body = c.in-Some.body.items in
    let bodies = bodies_of c.frames.bodies in
    let new = c.next.new.self in
    let all : bodies_of c.push.new.self ≡ bodies ++ body ∷ [] = rw c.in_ok-push.ensures.items
    (map-append (λ (b : Vec ℕ Global). b.items) c.frames.bodies.items (c.in-Some.body ∷ [])) in
    let moves : MovesPast body c.frames.reader new = rw c.in-Some.is at c.in_ok-body.ensures.moves in
    let found : IfSome (g.D.Disk.seen c.args.disk.now) (λ image. HasRead c.frames.reader bodies (image c.args.file)
    → HasRead new (bodies ++ body ∷ []) (image c.args.file)) = rw (← far.read.same, ← far.same_file)
    (if_some (g.D.Disk.seen c.frames.disk) c.in_ok-body.ensures.found (λ image on read.
    rw c.in-Some.is at (on bodies read))) in
    rw all (record {
      read = only_read_more g.D.Disk _ _ _ far.read c.next.ensures.read;
      later = omega (arith, far.later, c.next.ensures.cause.later);
      same_file = moves.same_file ∙ far.same_file;
      at_end = omega (arith, moves.gate, far.at_end, length-framed-push bodies body);
      told = if_some_both (g.D.Disk.seen c.args.disk.now) far.told found (λ image read on. on read);
    })

-- a closed gate is behind the frames
pub returns-clause-answer : goal.returns-clause-answer
returns-clause-answer g c =
    scanned_whole g.D.Disk _ _ c.args.file c.frames.reader c.next.new.self (bodies_of c.frames.bodies)
    c.frames.invariant (rw c.in_default.is at c.in_ok-body.ensures.found)

pub returns-clause-log : goal.returns-clause-log
returns-clause-log g c =
    let far = c.frames.invariant in
    let bodies = bodies_of c.frames.bodies in
    let still : c.next.new.self ≡ c.frames.reader = rw c.in_default.is at c.in_ok-body.ensures.moves in
    let same_file : log_file c.next.new.self ≡ c.args.file = ap log_file still ∙ far.same_file in
    let has = scanned_whole g.D.Disk _ _ c.args.file c.frames.reader c.next.new.self bodies far
    (rw c.in_default.is at c.in_ok-body.ensures.found) in
    subst (λ (file : ℕ). Opens g.D.Disk file c.args.disk.now c.next.new.disk c.into_log.result bodies) same_file
    (c.into_log.ensures.opens bodies c.args.disk.now c.next.new.disk (rw still far.at_end) (rw same_file has)
    (only_read_more g.D.Disk _ _ _ far.read c.next.ensures.read))
