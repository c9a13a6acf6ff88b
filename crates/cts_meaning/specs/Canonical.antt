-- The canonical text of a query: what is written.
use Rattle.std.specs.Prelude.{ℕ, ◌==◌, ◌&&◌, not, nat_le, Bool, List, [], ◌∷◌, ◌++◌, map, is_some, codes, if◌then◌else◌}
use Rattle.std.specs.List.{list_all}
use Rattle.doc_model.specs.Queries.{kind_of, children}
use Rattle.doc_model.specs.declared.node.Node.{Node}
use Rattle.doc_model.specs.declared.node.Node.TheVariants as node
use Rattle.doc_model.specs.declared.query.Case.{Case}
use Rattle.doc_model.specs.declared.query.Case.TheVariants as case
use Rattle.doc_model.specs.declared.query.Query.{Query}
use Rattle.doc_model.specs.declared.query.Query.TheOpen.{Query-F}
use Rattle.doc_model.specs.declared.query.Query.TheFolds.{fold-Query}
use Rattle.doc_model.specs.declared.scalar.Scalar.{Scalar}
use Rattle.json_text.specs.Canonical.{node_text}
use Rattle.json_text.specs.Grammar.{Member}
use Rattle.cts_meaning.specs.Saying.{depth_text}
use Rattle.cts_meaning.specs.Shapes.{compare_text, form_name, greatest_distance, scalar_node, whole}
use Rattle.cts_meaning.specs.declared.form.QueryForm.{QueryForm}
use Rattle.cts_meaning.specs.declared.form.QueryForm.TheVariants as form

-- a query of this form, with these members
abbrev pub query_object : QueryForm → List Member → Node
query_object form members = node.Members ((form_name form, node.Members members) ∷ [])

abbrev pub texts_node : List (List ℕ) → Node
texts_node texts = node.Items (map node.Text texts)

abbrev pub scalars_node : List Scalar → Node
scalars_node values = node.Items (map scalar_node values)

-- a member, where it is needed
abbrev pub only_if : Bool → List ℕ → Node → List Member
only_if needed name value = if needed then (name, value) ∷ [] else []

abbrev pub case_options : Case → List (List ℕ)
case_options case.Auto = []
case_options case.Sensitive = codes "case-sensitive" ∷ []
case_options case.Insensitive = codes "case-insensitive" ∷ []

abbrev pub option_if : Bool → List ℕ → List (List ℕ)
option_if needed text = if needed then text ∷ [] else []

-- the member for options, where there are some
abbrev pub options_member : List (List ℕ) → List Member
options_member [] = []
options_member (text ∷ texts) = (codes "options", texts_node (text ∷ texts)) ∷ []

-- a query, from the nodes of those in it: its members in their order, arrays always as arrays, and neither an option
-- nor a default that isn't needed
abbrev pub query_step : Query-F Node → Node
query_step Query-F.True = query_object form.True []
query_step Query-F.False = query_object form.False []
query_step (Query-F.And queries) = query_object form.And ((codes "queries", node.Items queries) ∷ [])
query_step (Query-F.Or queries) = query_object form.Or ((codes "queries", node.Items queries) ∷ [])
query_step (Query-F.Not query) = query_object form.Not ((codes "query", query) ∷ [])
query_step (Query-F.AndNot positive negative) =
    query_object form.AndNot ((codes "positiveQuery", positive) ∷ (codes "negativeQuery", negative) ∷ [])
query_step (Query-F.Word texts case) =
    query_object form.Word ((codes "text", texts_node texts) ∷ options_member (case_options case))
query_step (Query-F.PropWord names texts case) =
    query_object form.PropWord ((codes "property", texts_node names) ∷ (codes "text", texts_node texts)
    ∷ options_member (case_options case))
query_step (Query-F.PropValue names values case exact) =
    query_object form.PropValue ((codes "property", texts_node names) ∷ (codes "value", scalars_node values)
    ∷ options_member (case_options case ++ option_if exact (codes "exact")))
query_step (Query-F.Range names op values) =
    query_object form.Range ((codes "property", texts_node names) ∷ (codes "operator", node.Text (compare_text op))
    ∷ (codes "value", scalars_node values) ∷ [])
query_step (Query-F.Near queries distance ordered) =
    query_object form.Near ((codes "queries", node.Items queries)
    ∷ only_if (not (distance == 10)) (codes "distance") (whole distance)
    ++ options_member (option_if ordered (codes "ordered")))
query_step (Query-F.Collection uris) = query_object form.Collection ((codes "uris", texts_node uris) ∷ [])
query_step (Query-F.Directory uris infinite) =
    query_object form.Directory ((codes "uris", texts_node uris)
    ∷ only_if infinite (codes "depth") (node.Text (depth_text infinite)))
query_step (Query-F.DocUri uris) = query_object form.DocUri ((codes "uris", texts_node uris) ∷ [])

-- the canonical tree, and its text
abbrev pub query_node : Query → Node
query_node = fold-Query Node query_step

abbrev pub query_text : Query → List ℕ
query_text q = node_text (query_node q)

-- range queries compare with numbers and texts alone
abbrev pub comparables_step : Query-F Bool → Bool
comparables_step (Query-F.Range names op values) = list_all (λ value. is_some (kind_of value)) values
comparables_step q = list_all (λ child. child) (children q)

abbrev pub has_comparables : Query → Bool
has_comparables = fold-Query Bool comparables_step

-- no distance is past the greatest
abbrev pub distances_step : Query-F Bool → Bool
distances_step (Query-F.Near queries distance ordered) = nat_le distance greatest_distance && list_all (λ q. q) queries
distances_step q = list_all (λ child. child) (children q)

abbrev pub has_distances : Query → Bool
has_distances = fold-Query Bool distances_step
