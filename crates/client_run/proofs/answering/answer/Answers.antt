use Rattle.std.proofs.Common.{subst}
use Rattle.transcript.specs.Commands.{Asks}
use Rattle.transcript.specs.declared.command.Command.{Command}
use Rattle.client_run.proofs.Asking.{says_answer, says_bad, says_memory}
use Rattle.client_run.proofs.answering.answer.Goals as goal

pub returns-in-Err-Bad-clause-answers : goal.returns-in-Err-Bad-clause-answers
returns-in-Err-Bad-clause-answers g c =
    let reads = (rw c.in-Err-Bad.field-0-is at c.in-Err-Bad.ensures).reads in
    says_bad g.S.Service.answers c.args.service.now c.args.line.now c.in-Err-Bad.kind c.in-Err-Bad.place reads.0 reads.1

pub returns-in-Err-Memory-clause-answers : goal.returns-in-Err-Memory-clause-answers
returns-in-Err-Memory-clause-answers g c =
    let reads = (rw c.in-Err-Memory.field-0-is at c.in-Err-Memory.ensures).reads in
    says_memory g.S.Service.answers c.args.service.now c.args.line.now reads.0 reads.1

pub returns-in-Ok-Some-clause-answers : goal.returns-in-Ok-Some-clause-answers
returns-in-Ok-Some-clause-answers g c =
    let asks = (rw c.in-Ok-Some.field-0-is at c.in-Ok-Some.ensures).reads in
    says_answer g.S.Service.answers c.args.service.now c.answer.new.self c.args.line.now c.in-Ok-Some.command
    c.answer.result asks
    (λ same. c.requires.stays (subst (λ (asked : Command). Asks c.args.line.now asked) same asks))
    c.answer.ensures.answers
