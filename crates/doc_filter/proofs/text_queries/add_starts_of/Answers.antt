use Rattle.std.proofs.Common.{◌≡◌, ◌++◌, ℕ, List, OnOk, append-nil, subst, sym, ap, ◌∙◌}
use Rattle.std.specs.Option.{option_copied}
use Rattle.doc_filter.specs.Found.{found_words}
use Rattle.doc_filter.specs.Tokenized.{phrase_starts, tokenized_strings}
use Rattle.doc_filter.proofs.FoundLemmas.{got_words}
use Rattle.doc_filter.proofs.PhraseLemmas.{no_starts}
use Rattle.doc_filter.proofs.RunLemmas.{none_there}
use Rattle.doc_filter.proofs.text_queries.add_starts_of.Goals as goal

pub returns-then-is_empty-clause-starts : goal.returns-then-is_empty-clause-starts
returns-then-is_empty-clause-starts c =
    let phrase = c.args.phrase.now in
    let none = none_there c.as_slice-wanted.result.now c.is_empty.result c.is_empty.ensures c.if-is_empty.true in
    sym (ap (λ ns. c.args.out.now ++ ns) (no_starts (tokenized_strings phrase.any_case c.args.document.now.root) phrase.words
    (option_copied c.args.names) (sym c.as_slice-wanted.ensures ∙ none)) ∙ append-nil c.args.out.now)

pub returns-clause-starts : goal.returns-clause-starts
returns-clause-starts c =
    let phrase = c.args.phrase.now in
    let root = c.args.document.now.root in
    let names = option_copied c.args.names in
    let called = c.add_phrase_starts in
    let got = got_words phrase.any_case root (found_words phrase.any_case c.find.new.self) c.get.result.now
    c.in_ok-find.ensures.found c.get.ensures in
    let P : List ℕ → Type 0 = λ ns. OnOk called.result (called.new.out ≡ c.args.out.now ++ ns) in
    subst P
    (ap (λ found. phrase_starts found c.as_slice-wanted.result.now names) got
    ∙ ap (λ wanted. phrase_starts (tokenized_strings phrase.any_case root) wanted names) c.as_slice-wanted.ensures)
    c.add_phrase_starts.ensures
