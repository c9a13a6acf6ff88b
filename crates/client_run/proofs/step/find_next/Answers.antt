use Rattle.std.proofs.Common.{[], arith}
use Rattle.std.proofs.lemmas.Result.{err_from_is_err_and}
use Rattle.client_run.proofs.Moving.{moves_more}
use Rattle.client_run.proofs.Stepping.{gathers_more, send_fault}
use Rattle.client_run.proofs.step.find_next.Goals as goal

pub returns-in_err-send-clause-found : goal.returns-in_err-send-clause-found
returns-in_err-send-clause-found g c =
    let p = err_from_is_err_and c.from_residual.result c.from_residual.ensures.1 in
    rw (p.1, p.2) (send_fault c.loop-found.reader c.args.outbox.now c.loop-found.outbox c.send.new.outbox
    (g.W.Sink.written c.args.sink.now) (g.W.Sink.written c.loop-found.sink) (g.W.Sink.written c.send.new.sink) _
    c.loop-found.invariant.moves c.in_err-send.ensures.says)

pub loop-found-preserved : goal.loop-found-preserved
loop-found-preserved g c = record {
  gathers = gathers_more c.args.reader.now c.loop-found.reader c.fill.new.self c.find-found-in-More.new.self
      (g.I.Source.left c.args.source.now) (g.I.Source.left c.loop-found.source) (g.I.Source.left c.fill.new.source) _
      c.loop-found.invariant.gathers c.in-Ok.ensures.bytes c.find-found-in-More.ensures.same;
  found = rw c.find-found-in-More.ensures.same c.find-found-in-More.ensures.found;
  moves = moves_more c.args.outbox.now c.loop-found.outbox (g.W.Sink.written c.args.sink.now)
      (g.W.Sink.written c.loop-found.sink) (g.W.Sink.written c.send.new.sink) [] [] c.send.new.outbox
      c.loop-found.invariant.moves c.in_ok-send.ensures.says;
  source_later = omega (arith, c.loop-found.invariant.source_later, c.in-Ok.ensures.cause.later);
  sink_later = omega (arith, c.loop-found.invariant.sink_later, c.in_ok-send.ensures.fault.later);
}
