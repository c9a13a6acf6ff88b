use Rattle.std.proofs.Common.{◌∷◌, []}
use Rattle.client_lines.proofs.SendingLemmas.{puts_more, puts_short}
use Rattle.client_lines.proofs.words.put_ended.Goals as goal

pub returns-in_err-add : goal.returns-in_err-add
returns-in_err-add g c =
    puts_short g.W.Sink.written g.W.Sink.faults c.from_residual.result c.in_err-add.field-0.0 c.args.outbox.now
    c.add.new.self c.args.sink.now c.add.new.sink c.args.bytes.now (0x0A ∷ []) c.from_residual.ensures.0
    c.in_err-add.ensures

pub returns : goal.returns
returns g c =
    puts_more g.W.Sink.written g.W.Sink.faults c.add-2.result c.args.outbox.now c.add.new.self c.add-2.new.self
    c.args.sink.now c.add.new.sink c.add-2.new.sink c.args.bytes.now (0x0A ∷ []) c.in_ok-add.ensures c.add-2.ensures
