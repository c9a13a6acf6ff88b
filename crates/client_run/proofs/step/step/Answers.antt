use Rattle.std.proofs.Common.{◌≡◌, ◌⊎◌, ◌≤◌, ℕ, List, Err, ap, arith, inl, inr, subst, ◌∙◌}
use Rattle.std.proofs.lemmas.Result.{err_from_is_err_and}
use Rattle.client_run.proofs.Stepping.{step_fault, step_end, step_long, ended_fault, ended_goes, last_fault, last_ends}
use Rattle.client_run.specs.Reading.{Finds}
use Rattle.client_run.specs.Serving.{AnswersOne}
use Rattle.client_run.specs.declared.find.Find.{Find}
use Rattle.client_run.specs.declared.find.Find.TheVariants as find
use Rattle.transcript.specs.Lines.{without_return}
use Rattle.client_run.proofs.step.step.Goals as goal
use Rattle.client_run.proofs.step.step.Goals.{in_default-via-in-Line+else-served-lt-MAX_LINES, in_default-via-in-Last+else-served-lt-MAX_LINES-2, in_default-via-in_default}
use Rattle.transcript.specs.declared.limits.TheConstants.{MAX_LINES}

pub returns-in_err-len-clause-steps : goal.returns-in_err-len-clause-steps
returns-in_err-len-clause-steps g c =
    let p = err_from_is_err_and c.from_residual.result c.from_residual.ensures.1 in
    rw (p.1, p.2) (λ first so. step_fault g.S.Service.answers first c.args.service.now
    (g.I.Source.left c.args.source.now) (g.I.Source.left c.find_next.new.source)
    (g.W.Sink.written c.args.sink.now) (g.W.Sink.written c.find_next.new.sink)
    c.args.outbox.now c.find_next.new.outbox c.args.reader.now c.find_next.new.reader c.args.served c.requires.few so
    c.find_next.ensures.gathers _ c.in_err-len.ensures.found)

pub returns-in_err-answer_line-in-Line-clause-steps : goal.returns-in_err-answer_line-in-Line-clause-steps
returns-in_err-answer_line-in-Line-clause-steps g c =
    let p = err_from_is_err_and c.from_residual-in_err-answer_line-in-Line.result
    c.from_residual-in_err-answer_line-in-Line.ensures.1 in
    let finds : Finds c.find_next.new.reader (find.Line c.in-Line.len) =
    subst (λ (f : Find). Finds c.find_next.new.reader f) c.in-Line.is c.in_ok-len.ensures.found.0 in
    let bytes = c.without_return-line.ensures ∙ ap without_return c.front.ensures in
    rw (p.1, p.2) (λ first so. ended_fault g.S.Service.answers first c.args.service.now
    (g.I.Source.left c.args.source.now) (g.I.Source.left c.find_next.new.source)
    (g.W.Sink.written c.args.sink.now) (g.W.Sink.written c.find_next.new.sink)
    c.args.outbox.now c.find_next.new.outbox c.args.reader.now c.find_next.new.reader c.args.served c.requires.few so
    c.find_next.ensures.gathers c.in_ok-len.ensures.found.2 (omega (arith, c.if-served-lt-MAX_LINES.true))
    c.in-Line.len
    c.answer_line.new.service (g.W.Sink.written c.answer_line.new.sink) c.answer_line.new.outbox _ finds
    (subst (λ (line : List ℕ). AnswersOne g.S.Service.answers c.args.service.now c.answer_line.new.service line
    (Err c.in_err-answer_line-in-Line.field-0.0) c.find_next.new.outbox c.answer_line.new.outbox
    (g.W.Sink.written c.find_next.new.sink) (g.W.Sink.written c.answer_line.new.sink)) bytes
    c.in_err-answer_line-in-Line.ensures.answers))

pub returns-in_err-answer_line-in-Last-clause-steps : goal.returns-in_err-answer_line-in-Last-clause-steps
returns-in_err-answer_line-in-Last-clause-steps g c =
    let p = err_from_is_err_and c.from_residual-in_err-answer_line-in-Last.result
    c.from_residual-in_err-answer_line-in-Last.ensures.1 in
    let finds : Finds c.find_next.new.reader (find.Last c.in-Last.len) =
    subst (λ (f : Find). Finds c.find_next.new.reader f) c.in-Last.is c.in_ok-len.ensures.found.0 in
    rw (p.1, p.2) (λ first so. last_fault g.S.Service.answers first c.args.service.now
    (g.I.Source.left c.args.source.now) (g.I.Source.left c.find_next.new.source)
    (g.W.Sink.written c.args.sink.now) (g.W.Sink.written c.find_next.new.sink)
    c.args.outbox.now c.find_next.new.outbox c.args.reader.now c.find_next.new.reader c.args.served c.requires.few so
    c.find_next.ensures.gathers c.in_ok-len.ensures.found.2 (omega (arith, c.if-served-lt-MAX_LINES-2.true))
    c.in-Last.len
    c.answer_line-in-Last.new.service (g.W.Sink.written c.answer_line-in-Last.new.sink)
    c.answer_line-in-Last.new.outbox finds _
    (subst (λ (line : List ℕ). AnswersOne g.S.Service.answers c.args.service.now c.answer_line-in-Last.new.service
    line (Err c.in_err-answer_line-in-Last.field-0.0) c.find_next.new.outbox c.answer_line-in-Last.new.outbox
    (g.W.Sink.written c.find_next.new.sink) (g.W.Sink.written c.answer_line-in-Last.new.sink))
    c.front-in-Last.ensures c.in_err-answer_line-in-Last.ensures.answers))

pub returns-in_ok-answer_line-in-Line-clause-steps : goal.returns-in_ok-answer_line-in-Line-clause-steps
returns-in_ok-answer_line-in-Line-clause-steps g c =
    let finds : Finds c.find_next.new.reader (find.Line c.in-Line.len) =
    subst (λ (f : Find). Finds c.find_next.new.reader f) c.in-Line.is c.in_ok-len.ensures.found.0 in
    let bytes = c.without_return-line.ensures ∙ ap without_return c.front.ensures in
    λ first so. (
      omega (arith, c.if-served-lt-MAX_LINES.true),
      ended_goes g.S.Service.answers first c.args.service.now (g.I.Source.left c.args.source.now)
          (g.I.Source.left c.find_next.new.source) (g.W.Sink.written c.args.sink.now)
          (g.W.Sink.written c.find_next.new.sink)
          c.args.outbox.now c.find_next.new.outbox c.args.reader.now c.find_next.new.reader c.args.served
          c.requires.few so c.find_next.ensures.gathers c.in_ok-len.ensures.found.2
          (omega (arith, c.if-served-lt-MAX_LINES.true)) c.in-Line.len
          c.answer_line.new.service (g.W.Sink.written c.answer_line.new.sink) c.answer_line.new.outbox _
          c.skip.new.self finds c.skip.ensures (rw bytes at c.in_ok-answer_line-in-Line.ensures.answers)
          c.in_ok-answer_line-in-Line.ensures.room,
    )

pub returns-in_ok-answer_line-in-Last-clause-steps : goal.returns-in_ok-answer_line-in-Last-clause-steps
returns-in_ok-answer_line-in-Last-clause-steps g c =
    let finds : Finds c.find_next.new.reader (find.Last c.in-Last.len) =
    subst (λ (f : Find). Finds c.find_next.new.reader f) c.in-Last.is c.in_ok-len.ensures.found.0 in
    λ first so. last_ends g.S.Service.answers first c.args.service.now (g.I.Source.left c.args.source.now)
    (g.I.Source.left c.find_next.new.source) (g.W.Sink.written c.args.sink.now)
    (g.W.Sink.written c.find_next.new.sink)
    c.args.outbox.now c.find_next.new.outbox c.args.reader.now c.find_next.new.reader c.args.served c.requires.few so
    c.find_next.ensures.gathers c.in_ok-len.ensures.found.2 (omega (arith, c.if-served-lt-MAX_LINES-2.true))
    c.in-Last.len
    c.answer_line-in-Last.new.service (g.W.Sink.written c.answer_line-in-Last.new.sink)
    c.answer_line-in-Last.new.outbox finds _ (g.W.Sink.written c.close.new.sink) c.close.new.outbox c.close.result
    (rw c.front-in-Last.ensures at c.in_ok-answer_line-in-Last.ensures.answers) c.close.ensures.closes

pub returns-in-End-clause-steps : goal.returns-in-End-clause-steps
returns-in-End-clause-steps g c =
    let finds : Finds c.find_next.new.reader find.End = subst (λ (f : Find). Finds c.find_next.new.reader f)
    c.in-End.is c.in_ok-len.ensures.found.0 in
    λ first so. step_end g.S.Service.answers first c.args.service.now (g.I.Source.left c.args.source.now)
    (g.I.Source.left c.find_next.new.source) (g.W.Sink.written c.args.sink.now)
    (g.W.Sink.written c.find_next.new.sink)
    c.args.outbox.now c.find_next.new.outbox c.args.reader.now c.find_next.new.reader c.args.served c.requires.few so
    c.find_next.ensures.gathers c.in_ok-len.ensures.found.2 (g.W.Sink.written c.close-in-End.new.sink)
    c.close-in-End.new.outbox c.close-in-End.result finds c.close-in-End.ensures.closes

pub returns-in_default-clause-steps : goal.returns-in_default-clause-steps
returns-in_default-clause-steps g c =
    let found = c.in_ok-len.field-0 in
    let not_end : found ≡ find.End → ⊥ = elim c.in_default.branch [
      | in_default-via-in-Line+else-served-lt-MAX_LINES w ↦ λ is. absurd (cc (is, w.in-Line.is))
      | in_default-via-in-Last+else-served-lt-MAX_LINES-2 w ↦ λ is. absurd (cc (is, w.in-Last.is))
      | in_default-via-in_default w ↦ w.in_default.not-End
    ] in
    let most : (len : ℕ) → (found ≡ find.Line len) ⊎ (found ≡ find.Last len) → MAX_LINES ≤ c.args.served =
    elim c.in_default.branch [
      | in_default-via-in-Line+else-served-lt-MAX_LINES w ↦ λ len is. omega (arith, w.if-served-lt-MAX_LINES.false)
      | in_default-via-in-Last+else-served-lt-MAX_LINES-2 w ↦ λ len is. omega
          (arith, w.if-served-lt-MAX_LINES-2.false)
      | in_default-via-in_default w ↦ λ len is. absurd
          (elim is [ inl line ↦ w.in_default.not-Line len line | inr last ↦ w.in_default.not-Last len last ])
    ] in
    λ first so. step_long g.S.Service.answers first c.args.service.now (g.I.Source.left c.args.source.now)
    (g.I.Source.left c.find_next.new.source) (g.W.Sink.written c.args.sink.now)
    (g.W.Sink.written c.find_next.new.sink)
    c.args.outbox.now c.find_next.new.outbox c.args.reader.now c.find_next.new.reader c.args.served c.requires.few so
    c.find_next.ensures.gathers c.in_ok-len.ensures.found.2 (g.W.Sink.written c.close_with.new.sink)
    c.close_with.new.outbox c.close_with.result found c.in_ok-len.ensures.found.0 not_end
    c.in_ok-len.ensures.found.1 most c.close_with.ensures.closes
