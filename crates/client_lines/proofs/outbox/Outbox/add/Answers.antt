use Rattle.std.proofs.Common.{◌≡◌, ◌<◌, inl, inr, length, sym, ◌∙◌, arith}
use Rattle.std.proofs.lemmas.Bool.{cases_lt, false≢true}
use Rattle.client_lines.proofs.SendingLemmas.{passes_on, puts_off, puts_whole, all_put}
use Rattle.client_lines.proofs.outbox.Outbox.add.Goals as goal

pub returns-in_err-send : goal.returns-in_err-send
returns-in_err-send g c =
    puts_off g.W.Sink.written g.W.Sink.faults c.from_residual.result c.in_err-send.field-0.0 c.args.self.now
    c.full.self c.send.new.self c.args.sink.now c.full.sink c.send.new.sink c.args.bytes.now c.full.at
    c.from_residual.ensures.0 c.full.invariant.passes c.full.invariant.later c.in_err-send.ensures.bytes
    c.in_err-send.ensures.cause

pub returns : goal.returns
returns g c =
    let not_full : length c.full.self ≡ 65536 → ⊥ = (λ e. false≢true (sym c.full-test.false ∙ c.is_full.ensures.1 e)) in
    let room : length c.full.self < 65536 = elim (cases_lt (length c.full.self) 65536) [
      | inl lt ↦ lt
      | inr le ↦ absurd (not_full (omega (arith, le, c.full.invariant.most)))
    ] in
    puts_whole g.W.Sink.written g.W.Sink.faults c.args.self.now c.full.self c.args.sink.now c.full.sink c.args.bytes.now
    c.full.at (omega (arith, c.full.invariant.whole room)) c.full.invariant.passes room c.full.invariant.later

pub full-preserved : goal.full-preserved
full-preserved g c = record {
  in_range = omega (arith, c.fill-at-in-full.ensures.count);
  passes = passes_on tt tt c.args.self.now c.full.self c.send.new.self c.fill-at-in-full.new.self
      (g.W.Sink.written c.args.sink.now) (g.W.Sink.written c.full.sink) (g.W.Sink.written c.send.new.sink)
      c.args.bytes.now c.full.at c.fill-at-in-full.result c.full.invariant.passes c.in_ok-send.ensures.bytes
      c.fill-at-in-full.ensures.kept;
  most = c.fill-at-in-full.ensures.most;
  whole = λ lt. omega (
    arith,
    c.full.invariant.in_range,
    all_put c.fill-at-in-full.new.self c.send.new.self _
        c.fill-at-in-full.result c.fill-at-in-full.ensures.kept c.fill-at-in-full.ensures.count lt,
  );
  later = omega (arith, c.full.invariant.later, c.in_ok-send.ensures.cause.later);
}
