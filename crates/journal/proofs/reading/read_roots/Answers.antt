use Rattle.std.proofs.Common.{◌∙◌, arith}
use Rattle.std.proofs.lemmas.Result.{err_from_is_err_and}
use Rattle.frame_log.specs.FramesRead.{MovesPast}
use Rattle.frame_log.proofs.ReadLemmas.{only_read_more}
use Rattle.directory_meaning.specs.Damages.{AreRootBodies, IsBadRoot}
use Rattle.directory_meaning.proofs.BreakLemmas.{root_breaks}
use Rattle.directory_reading.specs.Reading.{HasNewest}
use Rattle.directory_reading.specs.declared.unread.LogBad.TheVariants.{Fault}
use Rattle.journal.proofs.LogLoops.{blames_body, blames_none, blames_since, body_unread, frame_unread, keeps_length, read_next, read_none, read_whole}
use Rattle.journal.proofs.reading.read_roots.Goals as goal

pub loop-roots-init : goal.loop-roots-init
loop-roots-init g c =
    read_none g.D.Disk c.args.disk.now c.begin.new.disk c.args.file c.in_ok-reader.reader
    (λ bodies. HasNewest c.args.file bodies c.new-roots.result.newest) (c.new-roots.ensures c.args.file)
    c.begin.ensures.read c.begin.ensures.cause.later c.in_ok-reader.ensures.start c.in_ok-reader.ensures.first

pub next_body-requires-clause-length : goal.next_body-requires-clause-length
next_body-requires-clause-length g c κs within = keeps_length g.D.Disk _ _ _ _ _ c.loop-roots.invariant

-- no whole frame follows
pub returns-in_err-body-clause-refused : goal.returns-in_err-body-clause-refused
returns-in_err-body-clause-refused g c =
    let far = c.loop-roots.invariant in
    let p = err_from_is_err_and c.from_residual-in_err-body.result c.from_residual-in_err-body.ensures.1 in
    rw (p.1, p.2) (frame_unread g.D.Disk _ _ _ _ _ far AreRootBodies IsBadRoot (far.found.roots, far.found.spelled)
    c.next_body.new.reader c.in_err-body.field-0.0 c.in_err-body.ensures.found)

pub returns-in_err-body-clause-read : goal.returns-in_err-body-clause-read
returns-in_err-body-clause-read g c =
    only_read_more g.D.Disk _ _ _ c.loop-roots.invariant.read c.next_body.ensures.read

pub returns-in_err-body-clause-cause : goal.returns-in_err-body-clause-cause
returns-in_err-body-clause-cause g c =
    let p = err_from_is_err_and c.from_residual-in_err-body.result c.from_residual-in_err-body.ensures.1 in
    rw (p.1, p.2) (blames_since Fault _ _ _ _ c.loop-roots.invariant.later c.in_err-body.ensures.cause)

-- an invalid body follows
pub returns-in_err-take-clause-refused : goal.returns-in_err-take-clause-refused
returns-in_err-take-clause-refused g c =
    let far = c.loop-roots.invariant in
    let p = err_from_is_err_and c.from_residual-in_err-take.result c.from_residual-in_err-take.ensures.1 in
    let unread = rw c.deref.ensures.value
    at (c.in_err-take.ensures far.bodies far.found (c.gate-gate.ensures.place ∙ far.place)) in
    rw (p.1, p.2) (body_unread g.D.Disk _ _ _ _ _ far AreRootBodies IsBadRoot (far.found.roots, far.found.spelled)
    c.next_body.new.reader root_breaks c.in-Some.body c.gate-gate.result c.in_err-take.field-0.0
    (rw c.in-Some.is at c.in_ok-body.ensures.found) (rw c.in-Some.is at c.in_ok-body.ensures.moves)
    c.gate-gate.ensures.place unread)

pub returns-in_err-take-clause-read : goal.returns-in_err-take-clause-read
returns-in_err-take-clause-read g c =
    only_read_more g.D.Disk _ _ _ c.loop-roots.invariant.read c.next_body.ensures.read

pub returns-in_err-take-clause-cause : goal.returns-in_err-take-clause-cause
returns-in_err-take-clause-cause g c =
    let far = c.loop-roots.invariant in
    let p = err_from_is_err_and c.from_residual-in_err-take.result c.from_residual-in_err-take.ensures.1 in
    rw (p.1, p.2) (blames_body _ c.in_err-take.field-0.0 _ _ (omega (arith, far.later, c.next_body.ensures.cause.later))
    (c.in_err-take.ensures far.bodies far.found (c.gate-gate.ensures.place ∙ far.place)))

pub loop-roots-smaller : goal.loop-roots-smaller
loop-roots-smaller g c =
    let moves : MovesPast c.in-Some.body.items c.loop-roots.reader c.next_body.new.reader =
    rw c.in-Some.is at c.in_ok-body.ensures.moves in
    omega (arith, moves.gate, moves.same_length, moves.inside)

pub loop-roots-preserved : goal.loop-roots-preserved
loop-roots-preserved g c =
    let far = c.loop-roots.invariant in
    let next = rw c.deref.ensures.value
    at (c.in_ok-take.ensures far.bodies far.found (c.gate-gate.ensures.place ∙ far.place)) in
    read_next g.D.Disk _ _ _ _ _ far (λ bodies. HasNewest c.args.file bodies c.take.new.self.newest)
    c.next_body.new.disk c.next_body.new.reader c.in-Some.body (rw c.in-Some.is at c.in_ok-body.ensures.found)
    (rw c.in-Some.is at c.in_ok-body.ensures.moves) c.next_body.ensures.read c.next_body.ensures.cause.later next

-- a closed gate is behind the bodies
pub returns-clause-found : goal.returns-clause-found
returns-clause-found g c =
    let far = c.loop-roots.invariant in
    record {
      bodies = far.bodies;
      read = read_whole g.D.Disk _ _ _ _ _ far c.next_body.new.disk c.next_body.new.reader c.into_log.result
          (rw c.in_default.is at c.in_ok-body.ensures.moves) (rw c.in_default.is at c.in_ok-body.ensures.found)
          c.next_body.ensures.read c.into_log.ensures.opens;
      newest = far.found;
    }

pub returns-clause-read : goal.returns-clause-read
returns-clause-read g c =
    only_read_more g.D.Disk _ _ _ c.loop-roots.invariant.read c.next_body.ensures.read

pub returns-clause-cause : goal.returns-clause-cause
returns-clause-cause g c =
    blames_none _ _ _ (omega (arith, c.loop-roots.invariant.later, c.next_body.ensures.cause.later))
