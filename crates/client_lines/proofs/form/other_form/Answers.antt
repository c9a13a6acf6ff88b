use Rattle.std.proofs.Common.{subst, sym, ℕ, List}
use Rattle.client_lines.specs.LineForms.{IsUnformed, LacksCommon}
use Rattle.client_lines.proofs.GroupLemmas.{unformed, not_answered}
use Rattle.client_lines.proofs.form.other_form.Goals as goal

pub returns-clause-none : goal.returns-clause-none
returns-clause-none c =
    let value = c.as_bytes-bytes.ensures.value in
    subst (λ (l : List ℕ). IsUnformed l c.or-2.result.count) value
    (unformed c.as_bytes-bytes.result.now c.match_at.result c.match_pinned.result c.match_others-others.result
    c.match_answered.result c.or-fixed.result c.or.result c.or-2.result c.match_at.ensures c.match_pinned.ensures
    c.match_others-others.ensures c.match_answered.ensures
    c.or-fixed.ensures.count c.or-fixed.ensures.whole c.or.ensures.count c.or.ensures.whole c.or-2.ensures.count
    c.or-2.ensures.whole c.if-fixed.false c.if-others.false
    (not_answered c.as_bytes-bytes.result.now (subst LacksCommon (sym value) c.requires) c.in_default.ensures))
