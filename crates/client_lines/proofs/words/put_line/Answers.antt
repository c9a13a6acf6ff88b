use Rattle.std.proofs.Common.{◌++◌, ◌∷◌, []}
use Rattle.client_lines.specs.Tokens.{spaced_parts}
use Rattle.client_lines.proofs.SendingLemmas.{puts_more, puts_short}
use Rattle.client_lines.proofs.words.put_line.Goals as goal

pub returns-in_err-put_words : goal.returns-in_err-put_words
returns-in_err-put_words g c =
    puts_short g.W.Sink.written g.W.Sink.faults c.from_residual.result c.in_err-put_words.field-0.0 c.args.outbox.now
    c.put_words.new.outbox c.args.sink.now c.put_words.new.sink (c.args.first.now ++ spaced_parts c.args.more.now)
    (0x0A ∷ []) c.from_residual.ensures.0 c.in_err-put_words.ensures

pub returns : goal.returns
returns g c =
    puts_more g.W.Sink.written g.W.Sink.faults c.add.result c.args.outbox.now c.put_words.new.outbox c.add.new.self
    c.args.sink.now c.put_words.new.sink c.add.new.sink (c.args.first.now ++ spaced_parts c.args.more.now) (0x0A ∷ [])
    c.in_ok-put_words.ensures c.add.ensures
