-- Queries that start nowhere and have no children.
use Rattle.std.specs.Prelude.{Bool, true, false}
use Rattle.doc_model.specs.Documents.{PlainDocument}
use Rattle.doc_model.specs.Tree.{is_among}
use Rattle.doc_model.specs.declared.query.Query.{Query}
use Rattle.doc_model.specs.declared.query.Query.TheOpen.{Query-F}
use Rattle.doc_model.specs.declared.query.Query.TheFolds.{fold-Query}
use Rattle.doc_meaning.specs.Meaning.{has_in_range, has_value, have_common, is_in_directory}

-- what such a query says of a document; every other query is false here
abbrev pub leaf_step : {X : Type 0} → PlainDocument → Query-F X → Bool
leaf_step d Query-F.True = true
leaf_step d Query-F.False = false
leaf_step d (Query-F.PropValue names values case exact) = has_value d names values case exact
leaf_step d (Query-F.Range names op values) = has_in_range d names op values
leaf_step d (Query-F.Collection names) = have_common d.collections names
leaf_step d (Query-F.Directory uris infinite) = is_in_directory d uris infinite
leaf_step d (Query-F.DocUri uris) = is_among uris d.uri
leaf_step d (Query-F.And queries) = false
leaf_step d (Query-F.Or queries) = false
leaf_step d (Query-F.Not query) = false
leaf_step d (Query-F.AndNot positive negative) = false
leaf_step d (Query-F.Word texts case) = false
leaf_step d (Query-F.PropWord names texts case) = false
leaf_step d (Query-F.Near queries distance ordered) = false

-- whether a query without starts and without children holds
abbrev pub leaf_holds : Query → PlainDocument → Bool
leaf_holds q d = fold-Query Bool (leaf_step d) q
