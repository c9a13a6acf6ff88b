-- What a condition says of a document, and when it means a query.
use Rattle.std.specs.Prelude.{ℕ, ◌≡◌, Bool, true, false, ◌&&◌, not, List, flat_map, map, Option, None, Some}
use Rattle.std.specs.List.{list_any, list_all}
use Rattle.doc_model.specs.Documents.{PlainDocument}
use Rattle.doc_model.specs.Tree.{is_among}
use Rattle.doc_model.specs.declared.node.Node.{Node}
use Rattle.doc_model.specs.declared.query.Query.{Query}
use Rattle.doc_meaning.specs.declared.meaning.Meaning.{Meaning}
use Rattle.doc_meaning.specs.Meaning.{from_starts, have_common, in_directory, meaning, plainly}
use Rattle.doc_meaning.specs.Near.{is_near}
use Rattle.doc_meaning.specs.Strings.{scalars}
use Rattle.doc_filter.specs.declared.condition.Condition.{Condition}
use Rattle.doc_filter.specs.declared.condition.Condition.TheOpen.{Condition-F}
use Rattle.doc_filter.specs.declared.condition.Condition.TheFolds.{fold-Condition}
use Rattle.doc_filter.specs.declared.phrase.Phrase.{Phrase}
use Rattle.doc_filter.specs.Scalars.{passes, some_named}
use Rattle.doc_filter.specs.Tokenized.{phrase_starts, tokenized_strings}

-- where a phrase starts in the strings of these properties, or in all, as numbers of words
abbrev pub starts_of : Node → Option (List (List ℕ)) → Phrase → List ℕ
starts_of root names phrase = phrase_starts (tokenized_strings phrase.any_case root) phrase.words names

-- where some of the phrases start
abbrev pub starts_of_some : Node → Option (List (List ℕ)) → List Phrase → List ℕ
starts_of_some root names phrases = flat_map (starts_of root names) phrases

module _ (d : PlainDocument) where
  -- whether a condition holds and where it starts, from what its children say
  abbrev pub condition_step : Condition-F Meaning → Meaning
  condition_step Condition-F.True = plainly true
  condition_step Condition-F.False = plainly false
  condition_step (Condition-F.And children) = plainly (list_all (λ c. c.holds) children)
  condition_step (Condition-F.Or children) =
      record { holds = list_any (λ c. c.holds) children; starts = flat_map (λ c. c.starts) children }
  condition_step (Condition-F.Not child) = plainly (not child.holds)
  condition_step (Condition-F.AndNot positive negative) = plainly (positive.holds && not negative.holds)
  condition_step (Condition-F.Word phrases) = from_starts (starts_of_some d.root None phrases)
  condition_step (Condition-F.PropWord names phrases) = from_starts (starts_of_some d.root (Some names) phrases)
  condition_step (Condition-F.Scalars names test) = plainly (some_named names (passes test) (scalars d.root))
  condition_step (Condition-F.Near children distance ordered) =
      plainly (is_near distance ordered (map (λ c. c.starts) children))
  condition_step (Condition-F.Collection names) = plainly (have_common d.collections names)
  condition_step (Condition-F.Directory uris infinite) = plainly (list_any (in_directory infinite d.uri) uris)
  condition_step (Condition-F.DocUri uris) = plainly (is_among uris d.uri)

  -- whether a condition holds of the document, and where it starts
  abbrev pub condition_meaning : Condition → Meaning
  condition_meaning = fold-Condition Meaning condition_step

-- the document meets the condition
abbrev pub is_met : Condition → PlainDocument → Bool
is_met condition d = (condition_meaning d condition).holds

-- it says of each document what the query says
abbrev pub MeansQuery : Condition → Query → Type 0
MeansQuery condition query = (d : PlainDocument) → condition_meaning d condition ≡ meaning d query

-- each of them does
abbrev pub MeanQueries : List Condition → List Query → Type 0
MeanQueries conditions queries =
    (d : PlainDocument) → map (condition_meaning d) conditions ≡ map (meaning d) queries
