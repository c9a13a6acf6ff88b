use Rattle.std.proofs.Common.{◌∙◌, arith, sym}
use Rattle.directory_reading.proofs.LastLemmas.{empty_past, kind_past, number_past}
use Rattle.directory_reading.proofs.entries.place_past_all.Goals as goal

pub returns-then-is_empty-clause-exact : goal.returns-then-is_empty-clause-exact
returns-then-is_empty-clause-exact c = empty_past c.args.body.now (sym c.is_empty.ensures ∙ c.if-is_empty.true)

pub returns-then-is_known-clause-exact : goal.returns-then-is_known-clause-exact
returns-then-is_known-clause-exact c = number_past c.args.body.now _ (λ i. omega (arith, c.type_inv.body i))
    (sym c.is_empty.ensures ∙ c.if-is_empty.false) (sym c.is_known.ensures ∙ c.if-is_known.true)

pub returns-else-is_known-clause-exact : goal.returns-else-is_known-clause-exact
returns-else-is_known-clause-exact c = kind_past c.args.body.now _ (sym c.is_empty.ensures ∙ c.if-is_empty.false)
    (sym c.is_known.ensures ∙ c.if-is_known.false)
