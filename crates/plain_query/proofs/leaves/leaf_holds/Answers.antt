use Rattle.std.proofs.Common.{◌≡◌, Bool, IfOk, subst, sym, ap, ◌∙◌}
use Rattle.doc_model.specs.declared.query.Query.TheVariants as query
use Rattle.doc_model.specs.declared.query.Query.TheOpen.{Query-F}
use Rattle.doc_model.specs.declared.query.Query.TheFolds.{fold-roll-Query}
use Rattle.doc_meaning.specs.Meaning.{some_pair}
use Rattle.doc_meaning.specs.Strings.{scalars_of}
use Rattle.doc_meaning.specs.Values.{scalar_equals}
use Rattle.plain_query.specs.Leaves.{leaf_holds, leaf_step}
use Rattle.plain_query.proofs.leaves.leaf_holds.Goals as goal

pub returns-in_ok-found-in-PropValue : goal.returns-in_ok-found-in-PropValue
returns-in_ok-found-in-PropValue c =
    let q = c.in-PropValue in
    let d = c.args.document.now in
    let equals = scalar_equals q.case q.exact in
    let found = c.as_slice-in-PropValue.ensures ∙ c.in_ok-found-in-PropValue.ensures in
    let named = ap (λ names. scalars_of names c.root.result.now) c.as_slice.ensures in
    let rolled = ap (λ p. leaf_holds p d) (q.is ∙ sym (query.rolls-PropValue q.names q.values q.case q.exact)) in
    let told = fold-roll-Query Bool (leaf_step d) (Query-F.PropValue q.names q.values q.case q.exact) in
    subst (λ b. IfOk c.some_equals.result (λ holds. holds ≡ b))
    (ap (λ scalars. some_pair equals scalars c.as_slice-in-PropValue-2.result.now)
    (found ∙ named ∙ ap (scalars_of q.names) c.root.ensures.value)
    ∙ ap (some_pair equals (scalars_of q.names d.root)) c.as_slice-in-PropValue-2.ensures
    ∙ sym (rolled ∙ told))
    c.some_equals.ensures
