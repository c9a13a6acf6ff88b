-- What it is for a document to satisfy a query.
use Rattle.std.specs.Prelude.{ℕ, Bool, true, false, ◌&&◌, ◌||◌, not, ◌==◌, List, [], ◌∷◌, flat_map, map, length, drop, Option, None, Some}
use Rattle.std.specs.List.{list_any, list_all, starts_with}
use Rattle.std.specs.Prelude.{nat_eq}
use Rattle.doc_model.specs.Documents.{PlainDocument}
use Rattle.doc_model.specs.Tree.{is_among}
use Rattle.doc_model.specs.declared.query.Case.{Case}
use Rattle.doc_model.specs.declared.query.Compare.{Compare}
use Rattle.doc_model.specs.declared.query.Query.{Query}
use Rattle.doc_model.specs.declared.query.Query.TheOpen.{Query-F}
use Rattle.doc_model.specs.declared.query.Query.TheFolds.{fold-Query}
use Rattle.doc_model.specs.declared.scalar.Scalar.{Scalar}
use Rattle.doc_meaning.specs.declared.meaning.Meaning.{Meaning}
use Rattle.doc_meaning.specs.Near.{is_near}
use Rattle.doc_meaning.specs.Strings.{scalars_of, strings, starts_among}
use Rattle.doc_meaning.specs.declared.string_node.StringNode.{StringNode}
use Rattle.doc_meaning.specs.Values.{scalar_equals, in_range}

-- some value passes against some wanted one
abbrev pub some_pair : (Scalar → Scalar → Bool) → List Scalar → List Scalar → Bool
some_pair test found wanted = list_any (λ v. list_any (λ g. test v g) wanted) found

-- the two lists have a name in common
abbrev pub have_common : List (List ℕ) → List (List ℕ) → Bool
have_common names wanted = list_any (λ name. is_among names name) wanted

-- what follows the directory isn't empty, and has no slash unless any depth will do
abbrev pub is_inside : Bool → List ℕ → Bool
is_inside infinite [] = false
is_inside infinite (byte ∷ bytes) = infinite || list_all (λ b. not (b == 0x2F)) (byte ∷ bytes)

-- the URI is the directory and a rest inside it
abbrev pub in_directory : Bool → List ℕ → List ℕ → Bool
in_directory infinite uri directory = starts_with nat_eq uri directory && is_inside infinite (drop (length directory) uri)

-- it says no more than whether it holds
abbrev pub plainly : Bool → Meaning
plainly b = record { holds = b; starts = [] }

-- there is one
abbrev pub is_nonempty : List ℕ → Bool
is_nonempty [] = false
is_nonempty (n ∷ ns) = true

-- it holds where it starts
abbrev pub from_starts : List ℕ → Meaning
from_starts ns = record { holds = is_nonempty ns; starts = ns }

-- where some of the texts start
abbrev pub word_starts : List StringNode → List (List ℕ) → Case → Option (List (List ℕ)) → List ℕ
word_starts found texts case names = flat_map (λ text. starts_among found text case names) texts

module _ (d : PlainDocument) where
  -- a scalar of one of the properties equals some value
  abbrev pub has_value : List (List ℕ) → List Scalar → Case → Bool → Bool
  has_value names values case exact = some_pair (scalar_equals case exact) (scalars_of names d.root) values

  -- a scalar of one of the properties compares so with some value
  abbrev pub has_in_range : List (List ℕ) → Compare → List Scalar → Bool
  has_in_range names op values = some_pair (in_range op) (scalars_of names d.root) values

  -- the URI is inside one of the directories
  abbrev pub is_in_directory : List (List ℕ) → Bool → Bool
  is_in_directory uris infinite = list_any (in_directory infinite d.uri) uris

  -- whether a query holds and where it starts, from what its children say
  abbrev pub meaning_step : Query-F Meaning → Meaning
  meaning_step (Query-F.And queries) = plainly (list_all (λ q. q.holds) queries)
  meaning_step (Query-F.Or queries) =
      record { holds = list_any (λ q. q.holds) queries; starts = flat_map (λ q. q.starts) queries }
  meaning_step (Query-F.Not query) = plainly (not query.holds)
  meaning_step (Query-F.AndNot positive negative) = plainly (positive.holds && not negative.holds)
  meaning_step (Query-F.Word texts case) = from_starts (word_starts (strings d.root) texts case None)
  meaning_step (Query-F.PropWord names texts case) = from_starts (word_starts (strings d.root) texts case (Some names))
  meaning_step (Query-F.Near queries distance ordered) = plainly (is_near distance ordered (map (λ q. q.starts) queries))
  meaning_step Query-F.True = plainly true
  meaning_step Query-F.False = plainly false
  meaning_step (Query-F.PropValue names values case exact) = plainly (has_value names values case exact)
  meaning_step (Query-F.Range names op values) = plainly (has_in_range names op values)
  meaning_step (Query-F.Collection names) = plainly (have_common d.collections names)
  meaning_step (Query-F.Directory uris infinite) = plainly (is_in_directory uris infinite)
  meaning_step (Query-F.DocUri uris) = plainly (is_among uris d.uri)

  -- whether a query holds of the document, and where it starts
  abbrev pub meaning : Query → Meaning
  meaning = fold-Query Meaning meaning_step

-- the document satisfies the query
abbrev pub satisfies : Query → PlainDocument → Bool
satisfies q d = (meaning d q).holds
