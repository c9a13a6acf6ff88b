use Rattle.std.proofs.Common.{◌∷◌, []}
use Rattle.client_lines.specs.Tokens.{token_text}
use Rattle.client_lines.proofs.SendingLemmas.{puts_more, puts_short}
use Rattle.client_lines.proofs.words.put_spaced.Goals as goal

pub returns-in_err-add : goal.returns-in_err-add
returns-in_err-add g c =
    puts_short g.W.Sink.written g.W.Sink.faults c.from_residual.result c.in_err-add.field-0.0 c.args.outbox.now
    c.add.new.self c.args.sink.now c.add.new.sink (0x20 ∷ []) (token_text c.args.token.now) c.from_residual.ensures.0
    c.in_err-add.ensures

pub returns : goal.returns
returns g c =
    puts_more g.W.Sink.written g.W.Sink.faults c.put_token.result c.args.outbox.now c.add.new.self
    c.put_token.new.outbox c.args.sink.now c.add.new.sink c.put_token.new.sink (0x20 ∷ []) (token_text
    c.args.token.now) c.in_ok-add.ensures c.put_token.ensures
