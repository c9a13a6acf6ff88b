use Rattle.doc_engine.proofs.engine.Engine.holding.Goals as goal

pub invariant_of-result : goal.invariant_of-result
invariant_of-result g c = record {
  within = c.requires.within;
  up = ∣ (λ _. c.requires.logs) ∣₁;
  early = λ broken. absurd (cc (c.requires.whole, broken));
  stamps = c.requires.stamps;
}
