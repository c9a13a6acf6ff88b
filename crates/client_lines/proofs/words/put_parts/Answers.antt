use Rattle.std.proofs.Common.{[], arith, get_or}
use Rattle.client_lines.specs.Tokens.{spaced_part}
use Rattle.client_lines.specs.declared.token.ReplyToken.{ReplyToken}
use Rattle.client_lines.specs.declared.token.ReplyToken.TheVariants as token
use Rattle.client_lines.proofs.SendingLemmas.{at-index, passes_each, puts_all, puts_break}
use Rattle.client_lines.proofs.words.put_parts.Goals as goal

-- the default at which the loop reads a part
abbrev no_part : ReplyToken
no_part = token.Word (record { ref_ptr = (0, 0); now = [] })

pub returns-in_err-put_spaced : goal.returns-in_err-put_spaced
returns-in_err-put_spaced g c =
    puts_break g.W.Sink.written g.W.Sink.faults spaced_part c.from_residual.result c.in_err-put_spaced.field-0.0
    c.args.outbox.now c.loop-token.outbox c.put_spaced.new.outbox c.args.sink.now c.loop-token.sink
    c.put_spaced.new.sink c.args.tokens.now
    c.loop-token.token-index (get_or c.args.tokens.now c.loop-token.token-index no_part) c.loop-token-test.true
    (at-index spaced_part c.args.tokens.now c.loop-token.token-index no_part c.loop-token-test.true)
    c.from_residual.ensures.0 c.loop-token.invariant.passes c.loop-token.invariant.later c.in_err-put_spaced.ensures

pub returns : goal.returns
returns g c =
    puts_all g.W.Sink.written g.W.Sink.faults spaced_part c.args.outbox.now c.loop-token.outbox c.args.sink.now
    c.loop-token.sink c.args.tokens.now c.loop-token.token-index (omega (arith, c.loop-token-test.false))
    c.loop-token.invariant.passes c.loop-token.invariant.room c.loop-token.invariant.later

pub loop-token-preserved : goal.loop-token-preserved
loop-token-preserved g c = record {
  passes = passes_each spaced_part tt tt c.args.outbox.now c.loop-token.outbox c.put_spaced.new.outbox
      (g.W.Sink.written c.args.sink.now) (g.W.Sink.written c.loop-token.sink) (g.W.Sink.written c.put_spaced.new.sink)
      c.args.tokens.now c.loop-token.token-index (get_or c.args.tokens.now c.loop-token.token-index no_part)
      c.loop-token-test.true (at-index spaced_part c.args.tokens.now c.loop-token.token-index no_part
      c.loop-token-test.true)
      c.loop-token.invariant.passes c.in_ok-put_spaced.ensures.bytes;
  room = c.in_ok-put_spaced.ensures.room;
  later = omega (arith, c.loop-token.invariant.later, c.in_ok-put_spaced.ensures.cause.later);
}
