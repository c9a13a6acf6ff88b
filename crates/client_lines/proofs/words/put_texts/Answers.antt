use Rattle.std.proofs.Common.{arith}
use Rattle.transcript.specs.Texts.{ended}
use Rattle.client_lines.proofs.SendingLemmas.{passes_each, puts_all, puts_break}
use Rattle.client_lines.proofs.words.put_texts.Goals as goal

pub returns-in_err-put_text : goal.returns-in_err-put_text
returns-in_err-put_text g c =
    puts_break g.W.Sink.written g.W.Sink.faults ended c.from_residual.result c.in_err-put_text.field-0.0
    c.args.outbox.now c.loop-text.outbox c.put_text.new.outbox c.args.sink.now c.loop-text.sink c.put_text.new.sink
    c.args.texts.now c.loop-text.text-index c.text-item.result
    c.loop-text-test.true c.text-item.is
    c.from_residual.ensures.0 c.loop-text.invariant.passes c.loop-text.invariant.later c.in_err-put_text.ensures

pub returns : goal.returns
returns g c =
    puts_all g.W.Sink.written g.W.Sink.faults ended c.args.outbox.now c.loop-text.outbox c.args.sink.now
    c.loop-text.sink c.args.texts.now c.loop-text.text-index (omega (arith, c.loop-text-test.false))
    c.loop-text.invariant.passes c.loop-text.invariant.room c.loop-text.invariant.later

pub loop-text-preserved : goal.loop-text-preserved
loop-text-preserved g c = record {
  passes = passes_each ended tt tt c.args.outbox.now c.loop-text.outbox c.put_text.new.outbox
      (g.W.Sink.written c.args.sink.now) (g.W.Sink.written c.loop-text.sink) (g.W.Sink.written c.put_text.new.sink)
      c.args.texts.now c.loop-text.text-index c.text-item.result c.loop-text-test.true c.text-item.is
      c.loop-text.invariant.passes c.in_ok-put_text.ensures.bytes;
  room = c.in_ok-put_text.ensures.room;
  later = omega (arith, c.loop-text.invariant.later, c.in_ok-put_text.ensures.cause.later);
}
