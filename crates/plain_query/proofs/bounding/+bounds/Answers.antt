use Rattle.std.proofs.Common.{◌≡◌, ℕ, List, IfOk, subst, sym, ap, ◌∙◌}
use Rattle.doc_model.specs.declared.query.Query.TheVariants as query
use Rattle.doc_model.specs.declared.query.Query.TheOpen.{Query-F}
use Rattle.doc_model.specs.declared.query.Query.TheFolds.{fold-roll-Query}
use Rattle.doc_meaning.specs.declared.bounds.Bounds.{Bounds}
use Rattle.doc_meaning.specs.Estimates.{bounds, bounds_step}
use Rattle.doc_meaning.specs.Strings.{strings}
use Rattle.plain_query.specs.PropertyTexts.{names_bounds}
use Rattle.plain_query.proofs.bounding.+bounds.Goals as goal

pub bounds-returns-in-PropWord : goal.bounds-returns-in-PropWord
bounds-returns-in-PropWord t c =
    let names = c.in-PropWord.names in
    let texts = c.in-PropWord.texts in
    let case = c.in-PropWord.case in
    let document = c.args.document.now in
    let told : List (List ℕ) → List (List ℕ) → Bounds = names_bounds (strings document.root) case in
    let P : Bounds → Type 0 = λ b. IfOk c.prop_word_query_bounds.result (λ r. r ≡ b) in
    subst P
    (ap (λ some. told some c.as_slice-in-PropWord-2.result.now) c.as_slice-in-PropWord.ensures
    ∙ ap (told texts) c.as_slice-in-PropWord-2.ensures
    ∙ sym
    (ap (bounds document) (c.in-PropWord.is ∙ sym (query.rolls-PropWord names texts case))
    ∙ fold-roll-Query Bounds (bounds_step document) (Query-F.PropWord names texts case)))
    c.prop_word_query_bounds.ensures
