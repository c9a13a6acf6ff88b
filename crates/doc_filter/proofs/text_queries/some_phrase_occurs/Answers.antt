use Rattle.std.proofs.Common.{Bool, sym, ◌∙◌}
use Rattle.std.specs.Option.{option_copied}
use Rattle.doc_filter.specs.declared.phrase.Phrase.{Phrase}
use Rattle.doc_filter.specs.Conditions.{starts_of}
use Rattle.doc_meaning.specs.Meaning.{is_nonempty}
use Rattle.doc_filter.proofs.BoolLemmas.{passes_here, passes_nowhere}
use Rattle.doc_filter.proofs.PhraseLemmas.{some_starts_any}
use Rattle.doc_filter.proofs.text_queries.some_phrase_occurs.Goals as goal

pub returns-then-branch-clause-answer : goal.returns-then-branch-clause-answer
returns-then-branch-clause-answer c =
    let root = c.args.document.now.root in
    let names = option_copied c.args.names in
    let occurs : Phrase → Bool = λ phrase. is_nonempty (starts_of root names phrase) in
    passes_here occurs c.args.phrases.now c.loop-phrase.phrase-index c.phrase-item.result
    c.in_ok-phrase_occurs.field-0 c.loop-phrase-test.true c.phrase-item.is c.in_ok-phrase_occurs.ensures.answer
    c.if-branch.true
    ∙ sym (some_starts_any root names c.args.phrases.now)

pub returns-clause-answer : goal.returns-clause-answer
returns-clause-answer c =
    let root = c.args.document.now.root in
    let names = option_copied c.args.names in
    let occurs : Phrase → Bool = λ phrase. is_nonempty (starts_of root names phrase) in
    passes_nowhere occurs c.args.phrases.now c.loop-phrase.phrase-index c.loop-phrase-test.false
    c.loop-phrase.invariant.none
    ∙ sym (some_starts_any root names c.args.phrases.now)
