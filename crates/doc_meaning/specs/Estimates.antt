-- Two tests of a query by single words, pairs of words and whole values, as an index knows them. Of a query that keeps
-- its rules, only documents that satisfy it pass the one, and all that satisfy it pass the other.
use Rattle.std.specs.Prelude.{ℕ, Bool, true, false, ◌&&◌, not, List, [], ◌∷◌, map, filter, Some}
use Rattle.std.specs.List.{list_any, list_all}
use Rattle.doc_model.specs.Documents.{PlainDocument}
use Rattle.doc_model.specs.Tree.{is_among}
use Rattle.doc_model.specs.declared.query.Case.{Case}
use Rattle.doc_model.specs.declared.query.Query.{Query}
use Rattle.doc_model.specs.declared.query.Query.TheOpen.{Query-F}
use Rattle.doc_model.specs.declared.query.Query.TheFolds.{fold-Query}
use Rattle.doc_meaning.specs.declared.bounds.Bounds.{Bounds}
use Rattle.doc_meaning.specs.declared.string_node.StringNode.{StringNode}
use Rattle.doc_meaning.specs.Meaning.{has_in_range, has_value, have_common, is_in_directory, is_nonempty}
use Rattle.doc_meaning.specs.Strings.{strings, is_named, ignores_case, words_seen, positions}

-- both tests agree
abbrev pub exactly : Bool → Bounds
exactly b = record { sure = b; maybe = b }

-- a test that some documents may pass which don't satisfy the query
abbrev pub only_maybe : Bool → Bounds
only_maybe b = record { sure = false; maybe = b }

-- what holds of some of several
abbrev pub any_bound : List Bounds → Bounds
any_bound all = record { sure = list_any (λ b. b.sure) all; maybe = list_any (λ b. b.maybe) all }

-- the words occur one after another in some string
abbrev pub occur : List StringNode → Bool → List (List ℕ) → Bool
occur found any_case ws = list_any (λ s. is_nonempty (positions ws (words_seen any_case s.text))) found

-- each word occurs somewhere
abbrev pub each_occurs : List StringNode → Bool → List (List ℕ) → Bool
each_occurs found any_case ws = list_all (λ w. occur found any_case (w ∷ [])) ws

-- each word and the one behind it occur one after another somewhere
abbrev pub neighbours_occur : List StringNode → Bool → List (List ℕ) → Bool
neighbours_occur found any_case [] = true
neighbours_occur found any_case (w ∷ []) = true
neighbours_occur found any_case (v ∷ w ∷ ws) = occur found any_case (v ∷ w ∷ []) && neighbours_occur found any_case (w ∷ ws)

-- one word or two are found exactly; of more, only neighbours are looked at
abbrev pub word_bounds : List StringNode → Bool → List (List ℕ) → Bounds
word_bounds found any_case [] = exactly false
word_bounds found any_case (w ∷ []) = exactly (occur found any_case (w ∷ []))
word_bounds found any_case (v ∷ w ∷ []) = exactly (occur found any_case (v ∷ w ∷ []))
word_bounds found any_case ws = only_maybe (neighbours_occur found any_case ws)

-- a text anywhere in a document
abbrev pub text_bounds : List StringNode → Case → List ℕ → Bounds
text_bounds found case text = let any_case = ignores_case case text in word_bounds found any_case (words_seen any_case text)

-- in a property one word is found exactly; of more, each word there and neighbours anywhere are looked at
abbrev pub prop_word_bounds : List StringNode → List StringNode → Bool → List (List ℕ) → Bounds
prop_word_bounds found owned any_case [] = exactly false
prop_word_bounds found owned any_case (w ∷ []) = exactly (occur owned any_case (w ∷ []))
prop_word_bounds found owned any_case ws = only_maybe (each_occurs owned any_case ws && neighbours_occur found any_case ws)

-- a text in one property
abbrev pub prop_text_bounds : List StringNode → Case → List ℕ → List ℕ → Bounds
prop_text_bounds found case text name =
    let any_case = ignores_case case text in
    prop_word_bounds found (filter (λ s. is_named (Some (name ∷ [])) s.property) found) any_case (words_seen any_case text)

-- near: it holds without children, with one child it is that child, and with more only `maybe` says anything
abbrev pub near_bounds : List Bounds → Bounds
near_bounds [] = exactly true
near_bounds (child ∷ []) = child
near_bounds children = only_maybe (list_all (λ b. b.maybe) children)

module _ (d : PlainDocument) where
  -- the tests of a query from those of its children
  abbrev pub bounds_step : Query-F Bounds → Bounds
  bounds_step (Query-F.And queries) = record { sure = list_all (λ b. b.sure) queries; maybe = list_all (λ b. b.maybe) queries }
  bounds_step (Query-F.Or queries) = any_bound queries
  bounds_step (Query-F.Not query) = record { sure = not query.maybe; maybe = not query.sure }
  bounds_step (Query-F.AndNot positive negative) =
      record { sure = positive.sure && not negative.maybe; maybe = positive.maybe && not negative.sure }
  bounds_step (Query-F.Word texts case) = any_bound (map (text_bounds (strings d.root) case) texts)
  bounds_step (Query-F.PropWord names texts case) =
      any_bound (map (λ name. any_bound (map (λ text. prop_text_bounds (strings d.root) case text name) texts)) names)
  bounds_step (Query-F.Near queries distance ordered) = near_bounds queries
  bounds_step Query-F.True = exactly true
  bounds_step Query-F.False = exactly false
  bounds_step (Query-F.PropValue names values case exact) = exactly (has_value d names values case exact)
  bounds_step (Query-F.Range names op values) = exactly (has_in_range d names op values)
  bounds_step (Query-F.Collection names) = exactly (have_common d.collections names)
  bounds_step (Query-F.Directory uris infinite) = exactly (is_in_directory d uris infinite)
  bounds_step (Query-F.DocUri uris) = exactly (is_among uris d.uri)

  -- both tests of a query
  abbrev pub bounds : Query → Bounds
  bounds = fold-Query Bounds bounds_step

-- of a query that keeps its rules, only documents that satisfy it pass
abbrev pub sure : Query → PlainDocument → Bool
sure q d = (bounds d q).sure

-- of a query that keeps its rules, each document that satisfies it passes
abbrev pub maybe : Query → PlainDocument → Bool
maybe q d = (bounds d q).maybe

-- a document that passes the wider test of a query and not the narrower one
abbrev pub is_doubtful : Query → PlainDocument → Bool
is_doubtful q d = maybe q d && not (sure q d)
