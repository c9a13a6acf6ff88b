-- The canonical tree of a query, and whether its distances fit, from those of the queries in it.
use Rattle.std.proofs.Common.{◌≡◌, ℕ, ◌++◌, ◌&&◌, ◌==◌, ◌≤◌, Bool, true, not, List, [], ◌∷◌, map, refl, sym, ap, ◌∙◌, le-leb}
use Rattle.std.proofs.lemmas.Bool.{and_from}
use Rattle.std.proofs.lemmas.List.Folds.{list_all-map}
use Rattle.std.specs.Prelude.{codes, nat_le}
use Rattle.std.specs.List.{list_all}
use Rattle.doc_model.specs.declared.node.Node.{Node}
use Rattle.doc_model.specs.declared.node.Node.TheVariants as node
use Rattle.doc_model.specs.declared.query.Case.{Case}
use Rattle.doc_model.specs.declared.query.Compare.{Compare}
use Rattle.doc_model.specs.declared.query.Query.{Query}
use Rattle.doc_model.specs.declared.query.Query.TheVariants as query
use Rattle.doc_model.specs.declared.query.Query.TheOpen.{Query-F}
use Rattle.doc_model.specs.declared.query.Query.TheFolds.{fold-roll-Query}
use Rattle.doc_model.specs.declared.scalar.Scalar.{Scalar}
use Rattle.cts_meaning.specs.Canonical.{case_options, distances_step, has_distances, only_if, option_if, options_member, query_node, query_object, query_step, scalars_node, texts_node}
use Rattle.cts_meaning.specs.Saying.{depth_text}
use Rattle.cts_meaning.specs.Shapes.{compare_text, greatest_distance, whole}
use Rattle.cts_meaning.specs.declared.form.QueryForm.TheVariants as form

-- ---- trees

pub node_true : query_node query.True ≡ query_object form.True []
node_true = ap query_node (sym query.rolls-True) ∙ fold-roll-Query Node query_step Query-F.True

pub node_false : query_node query.False ≡ query_object form.False []
node_false = ap query_node (sym query.rolls-False) ∙ fold-roll-Query Node query_step Query-F.False

pub node_and : (qs : List Query) →
    query_node (query.And qs) ≡ query_object form.And ((codes "queries", node.Items (map query_node qs)) ∷ [])
node_and qs = ap query_node (sym (query.rolls-And qs)) ∙ fold-roll-Query Node query_step (Query-F.And qs)

pub node_or : (qs : List Query) →
    query_node (query.Or qs) ≡ query_object form.Or ((codes "queries", node.Items (map query_node qs)) ∷ [])
node_or qs = ap query_node (sym (query.rolls-Or qs)) ∙ fold-roll-Query Node query_step (Query-F.Or qs)

pub node_not : (q : Query) → query_node (query.Not q) ≡ query_object form.Not ((codes "query", query_node q) ∷ [])
node_not q = ap query_node (sym (query.rolls-Not q)) ∙ fold-roll-Query Node query_step (Query-F.Not q)

pub node_and_not : (p n : Query) →
    query_node (query.AndNot p n) ≡ query_object form.AndNot ((codes "positiveQuery", query_node p)
    ∷ (codes "negativeQuery", query_node n) ∷ [])
node_and_not p n =
    ap query_node (sym (query.rolls-AndNot p n)) ∙ fold-roll-Query Node query_step (Query-F.AndNot p n)

pub node_word : (texts : List (List ℕ)) (c : Case) →
    query_node (query.Word texts c) ≡ query_object form.Word ((codes "text", texts_node texts)
    ∷ options_member (case_options c))
node_word texts c =
    ap query_node (sym (query.rolls-Word texts c)) ∙ fold-roll-Query Node query_step (Query-F.Word texts c)

pub node_prop_word : (names texts : List (List ℕ)) (c : Case) →
    query_node (query.PropWord names texts c) ≡ query_object form.PropWord ((codes "property", texts_node names)
    ∷ (codes "text", texts_node texts) ∷ options_member (case_options c))
node_prop_word names texts c =
    ap query_node (sym (query.rolls-PropWord names texts c))
    ∙ fold-roll-Query Node query_step (Query-F.PropWord names texts c)

pub node_prop_value : (names : List (List ℕ)) (values : List Scalar) (c : Case) (exact : Bool) →
    query_node (query.PropValue names values c exact) ≡
    query_object form.PropValue ((codes "property", texts_node names)
    ∷ (codes "value", scalars_node values) ∷ options_member (case_options c ++ option_if exact (codes "exact")))
node_prop_value names values c exact =
    ap query_node (sym (query.rolls-PropValue names values c exact))
    ∙ fold-roll-Query Node query_step (Query-F.PropValue names values c exact)

pub node_range : (names : List (List ℕ)) (op : Compare) (values : List Scalar) →
    query_node (query.Range names op values) ≡ query_object form.Range ((codes "property", texts_node names)
    ∷ (codes "operator", node.Text (compare_text op)) ∷ (codes "value", scalars_node values) ∷ [])
node_range names op values =
    ap query_node (sym (query.rolls-Range names op values))
    ∙ fold-roll-Query Node query_step (Query-F.Range names op values)

pub node_near : (qs : List Query) (d : ℕ) (ordered : Bool) →
    query_node (query.Near qs d ordered) ≡ query_object form.Near ((codes "queries", node.Items (map query_node qs))
    ∷ only_if (not (d == 10)) (codes "distance") (whole d) ++ options_member (option_if ordered (codes "ordered")))
node_near qs d ordered =
    ap query_node (sym (query.rolls-Near qs d ordered)) ∙ fold-roll-Query Node query_step (Query-F.Near qs d ordered)

pub node_collection : (uris : List (List ℕ)) →
    query_node (query.Collection uris) ≡ query_object form.Collection ((codes "uris", texts_node uris) ∷ [])
node_collection uris =
    ap query_node (sym (query.rolls-Collection uris)) ∙ fold-roll-Query Node query_step (Query-F.Collection uris)

pub node_directory : (uris : List (List ℕ)) (infinite : Bool) →
    query_node (query.Directory uris infinite) ≡ query_object form.Directory ((codes "uris", texts_node uris)
    ∷ only_if infinite (codes "depth") (node.Text (depth_text infinite)))
node_directory uris infinite =
    ap query_node (sym (query.rolls-Directory uris infinite))
    ∙ fold-roll-Query Node query_step (Query-F.Directory uris infinite)

pub node_doc_uri : (uris : List (List ℕ)) →
    query_node (query.DocUri uris) ≡ query_object form.DocUri ((codes "uris", texts_node uris) ∷ [])
node_doc_uri uris =
    ap query_node (sym (query.rolls-DocUri uris)) ∙ fold-roll-Query Node query_step (Query-F.DocUri uris)

-- ---- distances

pub distances_true : has_distances query.True ≡ true
distances_true = ap has_distances (sym query.rolls-True) ∙ fold-roll-Query Bool distances_step Query-F.True

pub distances_false : has_distances query.False ≡ true
distances_false = ap has_distances (sym query.rolls-False) ∙ fold-roll-Query Bool distances_step Query-F.False

pub distances_and : (qs : List Query) → has_distances (query.And qs) ≡ list_all has_distances qs
distances_and qs =
    ap has_distances (sym (query.rolls-And qs)) ∙ fold-roll-Query Bool distances_step (Query-F.And qs)
    ∙ list_all-map (λ b. b) has_distances qs

pub distances_or : (qs : List Query) → has_distances (query.Or qs) ≡ list_all has_distances qs
distances_or qs =
    ap has_distances (sym (query.rolls-Or qs)) ∙ fold-roll-Query Bool distances_step (Query-F.Or qs)
    ∙ list_all-map (λ b. b) has_distances qs

and-true : (b : Bool) → b ≡ true → (b && true) ≡ true
and-true b e = and_from b true e refl

pub distances_not : (q : Query) → has_distances q ≡ true → has_distances (query.Not q) ≡ true
distances_not q e =
    ap has_distances (sym (query.rolls-Not q)) ∙ fold-roll-Query Bool distances_step (Query-F.Not q)
    ∙ and-true (has_distances q) e

pub distances_and_not : (p n : Query) → has_distances p ≡ true → has_distances n ≡ true →
    has_distances (query.AndNot p n) ≡ true
distances_and_not p n e f =
    ap has_distances (sym (query.rolls-AndNot p n)) ∙ fold-roll-Query Bool distances_step (Query-F.AndNot p n)
    ∙ and_from (has_distances p) (has_distances n && true) e (and-true (has_distances n) f)

pub distances_near : (qs : List Query) (d : ℕ) (ordered : Bool) → d ≤ greatest_distance →
    list_all has_distances qs ≡ true → has_distances (query.Near qs d ordered) ≡ true
distances_near qs d ordered small e =
    ap has_distances (sym (query.rolls-Near qs d ordered))
    ∙ fold-roll-Query Bool distances_step (Query-F.Near qs d ordered)
    ∙ and_from (nat_le d greatest_distance) (list_all (λ b. b) (map has_distances qs))
    (le-leb d greatest_distance small)
    (list_all-map (λ b. b) has_distances qs ∙ e)

pub distances_word : (texts : List (List ℕ)) (c : Case) → has_distances (query.Word texts c) ≡ true
distances_word texts c =
    ap has_distances (sym (query.rolls-Word texts c)) ∙ fold-roll-Query Bool distances_step (Query-F.Word texts c)

pub distances_prop_word : (names texts : List (List ℕ)) (c : Case) → has_distances (query.PropWord names texts c) ≡ true
distances_prop_word names texts c =
    ap has_distances (sym (query.rolls-PropWord names texts c))
    ∙ fold-roll-Query Bool distances_step (Query-F.PropWord names texts c)

pub distances_prop_value : (names : List (List ℕ)) (values : List Scalar) (c : Case) (exact : Bool) →
    has_distances (query.PropValue names values c exact) ≡ true
distances_prop_value names values c exact =
    ap has_distances (sym (query.rolls-PropValue names values c exact))
    ∙ fold-roll-Query Bool distances_step (Query-F.PropValue names values c exact)

pub distances_range : (names : List (List ℕ)) (op : Compare) (values : List Scalar) →
    has_distances (query.Range names op values) ≡ true
distances_range names op values =
    ap has_distances (sym (query.rolls-Range names op values))
    ∙ fold-roll-Query Bool distances_step (Query-F.Range names op values)

pub distances_collection : (uris : List (List ℕ)) → has_distances (query.Collection uris) ≡ true
distances_collection uris =
    ap has_distances (sym (query.rolls-Collection uris))
    ∙ fold-roll-Query Bool distances_step (Query-F.Collection uris)

pub distances_directory : (uris : List (List ℕ)) (infinite : Bool) →
    has_distances (query.Directory uris infinite) ≡ true
distances_directory uris infinite =
    ap has_distances (sym (query.rolls-Directory uris infinite))
    ∙ fold-roll-Query Bool distances_step (Query-F.Directory uris infinite)

pub distances_doc_uri : (uris : List (List ℕ)) → has_distances (query.DocUri uris) ≡ true
distances_doc_uri uris =
    ap has_distances (sym (query.rolls-DocUri uris)) ∙ fold-roll-Query Bool distances_step (Query-F.DocUri uris)
