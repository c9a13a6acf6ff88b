-- A text of a query by its words.
use Rattle.std.specs.Prelude.{ℕ, List}
use Rattle.doc_model.specs.declared.query.Case.{Case}
use Rattle.doc_meaning.specs.Strings.{ignores_case, words_seen}
use Rattle.doc_filter.specs.declared.phrase.Phrase.{Phrase}

-- in the form in which they are compared
abbrev pub phrase_of : Case → List ℕ → Phrase
phrase_of case text = record { any_case = ignores_case case text; words = words_seen (ignores_case case text) text }
