use Rattle.std.proofs.Common.{◌∙◌}
use Rattle.std.proofs.lemmas.Result.{err_from_is_err_and}
use Rattle.docs_format.proofs.Lists.{goes_on, stops, ends}
use Rattle.docs_format.proofs.Parts.{stops_same}
use Rattle.journal_bodies.specs.RootReading.{part_at, parts_at}
use Rattle.journal_bodies.proofs.Loops.{parts_are}
use Rattle.journal_bodies.proofs.parts.parts_at.Goals as goal

pub returns-in_err-part_at-clause-parts : goal.returns-in_err-part_at-clause-parts
returns-in_err-part_at-clause-parts c =
    let p = err_from_is_err_and c.from_residual-in_err-part_at.result c.from_residual-in_err-part_at.ensures.1 in
    rw (p.1, p.2)
    (stops_same c.in_err-part_at.field-0.0 _ (parts_at c.args.next c.args.reader.now)
    (parts_are c.args.next c.args.reader.now c.in_ok-count.count c.count.new.self c.in_ok-count.ensures)
    (stops c.in_err-part_at.field-0.0 (part_at c.args.next) c.loop.parts c.in_ok-count.count c.loop.counter c.loop.reader
    _ c.loop-test.true (c.in_err-part_at.ensures.part c.loop.parts c.loop.invariant.seen) c.loop.invariant.total))

pub loop-preserved : goal.loop-preserved
loop-preserved c = record {
  total =
      rw c.in_ok-push.ensures.ok
      (goes_on (part_at c.args.next) c.loop.parts c.in_ok-count.count c.loop.counter c.loop.reader
      c.in_ok-part_at.field-0 c.part_at.new.reader _ c.loop-test.true
      (c.in_ok-part_at.ensures.part c.loop.parts c.loop.invariant.seen) c.loop.invariant.total);
  seen = rw c.in_ok-push.ensures.ok (c.in_ok-part_at.ensures.noted c.loop.parts c.loop.invariant.seen);
}

pub returns-clause-parts : goal.returns-clause-parts
returns-clause-parts c =
    parts_are c.args.next c.args.reader.now c.in_ok-count.count c.count.new.self c.in_ok-count.ensures
    ∙ ends (part_at c.args.next) c.loop.parts c.in_ok-count.count c.loop.counter c.loop.reader _ c.loop-test.false
    c.loop.invariant.total
