use Rattle.std.proofs.Common.{map, take, sym, ap, ◌∙◌}
use Rattle.std.proofs.lemmas.List.{take_all}
use Rattle.std.specs.List.{list_any}
use Rattle.doc_filter.specs.declared.condition.Condition.TheVariants as condition
use Rattle.doc_filter.specs.declared.scalar_test.ScalarTest.TheVariants.{Equal, Range}
use Rattle.doc_filter.specs.Conditions.{condition_meaning}
use Rattle.doc_filter.specs.Phrases.{phrase_of}
use Rattle.doc_meaning.specs.Meaning.{meaning}
use Rattle.doc_meaning.specs.Values.{scalar_equals}
use Rattle.doc_filter.proofs.OccurLemmas.{occur_more, occurs_and, occurs_and_not, occurs_near, occurs_not, occurs_or}
use Rattle.doc_filter.proofs.OccurLemmas.{occurs_prop_word, occurs_range, occurs_value, occurs_word}
use Rattle.doc_filter.proofs.preparing.+prepare.Goals as goal

pub prepare-returns-in_ok-prepare_all-in-And : goal.prepare-returns-in_ok-prepare_all-in-And
prepare-returns-in_ok-prepare_all-in-And t c =
    occurs_and c.args.query.now c.in-And.queries c.in_ok-prepare_all-in-And.field-0 c.in-And.is
    c.in_ok-prepare_all-in-And.ensures

pub prepare-returns-in_ok-prepare_all-in-Or : goal.prepare-returns-in_ok-prepare_all-in-Or
prepare-returns-in_ok-prepare_all-in-Or t c =
    occurs_or c.args.query.now c.in-Or.queries c.in_ok-prepare_all-in-Or.field-0 c.in-Or.is
    c.in_ok-prepare_all-in-Or.ensures

pub prepare-returns-in_ok-new-in-Not : goal.prepare-returns-in_ok-new-in-Not
prepare-returns-in_ok-new-in-Not t c =
    occurs_not c.args.query.now c.in-Not.query c.in_ok-new-in-Not.field-0 c.in-Not.is
    (λ d. ap (condition_meaning d) c.in_ok-new-in-Not.ensures ∙ c.in_ok-child-in-Not.ensures d
    ∙ ap (meaning d) c.get.ensures)

pub prepare-returns-in_ok-new-in-AndNot-2 : goal.prepare-returns-in_ok-new-in-AndNot-2
prepare-returns-in_ok-new-in-AndNot-2 t c =
    occurs_and_not c.args.query.now c.in-AndNot.positive c.in-AndNot.negative c.in_ok-new-in-AndNot.field-0
    c.in_ok-new-in-AndNot-2.field-0 c.in-AndNot.is
    (λ d. ap (condition_meaning d) c.in_ok-new-in-AndNot.ensures ∙ c.in_ok-positive-in-AndNot.ensures d
    ∙ ap (meaning d) c.get-in-AndNot.ensures)
    (λ d. ap (condition_meaning d) c.in_ok-new-in-AndNot-2.ensures ∙ c.in_ok-negative-in-AndNot.ensures d
    ∙ ap (meaning d) c.get-in-AndNot-2.ensures)

pub prepare-returns-in_ok-phrases_of-in-Word : goal.prepare-returns-in_ok-phrases_of-in-Word
prepare-returns-in_ok-phrases_of-in-Word t c =
    let q = c.in-Word in
    occurs_word c.args.query.now q.texts q.case c.in_ok-phrases_of-in-Word.field-0 q.is
    (c.in_ok-phrases_of-in-Word.ensures ∙ ap (map (phrase_of q.case)) c.as_slice.ensures)

pub prepare-returns-in_ok-phrases_of-in-PropWord :
    goal.prepare-returns-in_ok-phrases_of-in-PropWord
prepare-returns-in_ok-phrases_of-in-PropWord t c = λ d.
    let q = c.in-PropWord in
    let phrases = c.in_ok-phrases_of-in-PropWord.field-0 in
    ap (λ names. condition_meaning d (condition.PropWord names phrases)) c.in_ok-copy-in-PropWord.ensures
    ∙ occurs_prop_word c.args.query.now q.names q.texts q.case phrases q.is
    (c.in_ok-phrases_of-in-PropWord.ensures ∙ ap (map (phrase_of q.case)) c.as_slice-in-PropWord.ensures) d

pub prepare-returns-in_ok-new-in-PropValue : goal.prepare-returns-in_ok-new-in-PropValue
prepare-returns-in_ok-new-in-PropValue t c = λ d.
    let q = c.in-PropValue in
    let made = c.in_ok-new-in-PropValue.field-0 in
    ap (λ names. condition_meaning d (condition.Scalars names (Equal made))) c.in_ok-copy-in-PropValue.ensures
    ∙ occurs_value c.args.query.now q.names q.values q.case q.exact made q.is
    (λ v. c.in_ok-new-in-PropValue.ensures v
    ∙ ap (list_any (scalar_equals q.case q.exact v)) c.as_slice-in-PropValue.ensures) d

pub prepare-returns-in_ok-copy_scalars-in-Range : goal.prepare-returns-in_ok-copy_scalars-in-Range
prepare-returns-in_ok-copy_scalars-in-Range t c = λ d.
    let q = c.in-Range in
    let copied = c.in_ok-copy_scalars-in-Range.field-0 in
    ap (λ names. condition_meaning d (condition.Scalars names (Range q.op copied))) c.in_ok-copy-in-Range.ensures
    ∙ ap (λ values. condition_meaning d (condition.Scalars q.names (Range q.op values)))
    (c.in_ok-copy_scalars-in-Range.ensures ∙ c.as_slice-in-Range.ensures)
    ∙ occurs_range c.args.query.now q.names q.op q.values q.is d

pub prepare-returns-in_ok-prepare_all-in-Near : goal.prepare-returns-in_ok-prepare_all-in-Near
prepare-returns-in_ok-prepare_all-in-Near t c =
    let q = c.in-Near in
    occurs_near c.args.query.now q.queries c.in_ok-prepare_all-in-Near.field-0 q.distance q.ordered q.is
    c.in_ok-prepare_all-in-Near.ensures

pub prepare_all-loop-query-preserved : goal.prepare_all-loop-query-preserved
prepare_all-loop-query-preserved t c =
    occur_more c.loop-query.out c.push.new.self c.args.queries.now c.as_slice-query-items.result.now
    c.loop-query.query-index c.query-item.result c.in_ok-prepare.field-0 c.as_slice-query-items.ensures
    c.loop-query-test.true c.query-item.is c.in_ok-push.ensures.ok c.in_ok-prepare.ensures c.loop-query.invariant

pub prepare_all-returns : goal.prepare_all-returns
prepare_all-returns t c = λ d.
    let i = c.loop-query.query-index in
    let items = c.as_slice-query-items.result.now in
    c.loop-query.invariant d
    ∙ ap (λ qs. map (meaning d) (take i qs)) (sym c.as_slice-query-items.ensures)
    ∙ ap (map (meaning d)) (take_all i items c.loop-query-test.false ∙ c.as_slice-query-items.ensures)
