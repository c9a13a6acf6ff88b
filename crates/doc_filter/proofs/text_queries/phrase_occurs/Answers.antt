use Rattle.std.proofs.Common.{◌≡◌, Bool, IfOk, None, ap, subst, sym, ◌∙◌}
use Rattle.std.specs.Option.{option_copied}
use Rattle.doc_filter.specs.Found.{found_words}
use Rattle.doc_filter.specs.Tokenized.{phrase_starts, some_text_has, texts_under, tokenized_strings}
use Rattle.doc_meaning.specs.Meaning.{is_nonempty}
use Rattle.doc_filter.proofs.FoundLemmas.{got_words}
use Rattle.doc_filter.proofs.PhraseLemmas.{no_starts, phrase_somewhere}
use Rattle.doc_filter.proofs.RunLemmas.{none_there}
use Rattle.doc_filter.proofs.TextLemmas.{text_somewhere}
use Rattle.doc_filter.proofs.text_queries.phrase_occurs.Goals as goal

pub returns-then-is_empty-clause-answer : goal.returns-then-is_empty-clause-answer
returns-then-is_empty-clause-answer c =
    let phrase = c.args.phrase.now in
    let none = none_there c.as_slice-wanted.result.now c.is_empty.result c.is_empty.ensures c.if-is_empty.true in
    sym (ap is_nonempty (no_starts (tokenized_strings phrase.any_case c.args.document.now.root) phrase.words
    (option_copied c.args.names) (sym c.as_slice-wanted.ensures ∙ none)))

pub returns-then-begins-clause-answer : goal.returns-then-begins-clause-answer
returns-then-begins-clause-answer c =
    let phrase = c.args.phrase.now in
    let names = option_copied c.args.names in
    let P : Bool → Type 0 = λ answer. IfOk c.some_text_has.result (λ b. b ≡ answer) in
    subst P
    (ap (λ root. some_text_has phrase.any_case c.as_slice-wanted.result.now names (texts_under root None))
    c.root.ensures.value
    ∙ ap (λ wanted. some_text_has phrase.any_case wanted names (texts_under c.args.document.now.root None))
    c.as_slice-wanted.ensures
    ∙ text_somewhere phrase.any_case phrase.words names c.args.document.now.root)
    c.some_text_has.ensures

pub returns-clause-answer : goal.returns-clause-answer
returns-clause-answer c =
    let phrase = c.args.phrase.now in
    let root = c.args.document.now.root in
    let names = option_copied c.args.names in
    let got = got_words phrase.any_case root (found_words phrase.any_case c.find.new.self) c.get.result.now
    c.in_ok-find.ensures.found c.get.ensures in
    c.has_phrase.ensures
    ∙ phrase_somewhere c.get.result.now c.as_slice-wanted.result.now names
    ∙ ap (λ found. is_nonempty (phrase_starts found c.as_slice-wanted.result.now names)) got
    ∙ ap (λ wanted. is_nonempty (phrase_starts (tokenized_strings phrase.any_case root) wanted names))
    c.as_slice-wanted.ensures
