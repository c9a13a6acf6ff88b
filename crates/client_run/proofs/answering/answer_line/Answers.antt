use Rattle.client_run.proofs.Asking.{quits}
use Rattle.client_run.proofs.answering.answer_line.Goals as goal

pub returns-then-asks_quit-clause-answers : goal.returns-then-asks_quit-clause-answers
returns-then-asks_quit-clause-answers g c =
    quits g.S.Service.answers c.args.service.now c.args.line.now c.args.outbox.now c.close_with.new.outbox
    (g.W.Sink.written c.args.sink.now) (g.W.Sink.written c.close_with.new.sink) c.close_with.result
    (c.asks_quit.ensures.0 c.if-asks_quit.true) c.close_with.ensures.closes
