use Rattle.client_run.proofs.Moving.{closes_behind}
use Rattle.client_run.proofs.closing.close_with.Goals as goal

pub returns-in-Ok-clause-closes : goal.returns-in-Ok-clause-closes
returns-in-Ok-clause-closes g c =
    closes_behind c.args.outbox.now c.say.new.outbox (g.W.Sink.written c.args.sink.now)
    (g.W.Sink.written c.say.new.sink) (g.W.Sink.written c.close.new.sink) _ c.args.how c.close.result
    c.in-Ok.ensures.says c.close.ensures.closes
