-- What is written of a query is a text of it.
use Rattle.std.proofs.Common.{◌≡◌, ℕ, ◌≤◌, List, Result, Ok, Err, IfOk, subst}
use Rattle.std.specs.Prelude.{IsTrue}
use Rattle.doc_model.specs.Tree.{depth, has_distinct_names}
use Rattle.doc_model.specs.declared.node.Node.{Node}
use Rattle.doc_model.specs.declared.query.Query.{Query}
use Rattle.json_text.specs.Grammar.{IsJson}
use Rattle.cts_meaning.specs.Canonical.{has_comparables, has_distances, query_node}
use Rattle.cts_meaning.specs.Saying.{IsQueryText}
use Rattle.cts_meaning.proofs.CanonicalQueries.{canonical_tree}

of_tree : (q : Query) (text : List ℕ) → IsTrue (has_distances q) →
    (depth (query_node q) ≤ 128 → IsTrue (has_distinct_names (query_node q)) → IsJson text (query_node q)) →
    IsTrue (has_comparables q) → depth (query_node q) ≤ 128 → IsQueryText text q
of_tree q text distances json comparables nests =
    let tree = canonical_tree q comparables distances in (query_node q, json nests tree.0, tree.1)

pub written_of : {E : Type 0} (q : Query) (n : Node) (answer : Result (List ℕ) E) → n ≡ query_node q →
    IsTrue (has_distances q) →
    IfOk answer (λ text. depth n ≤ 128 → IsTrue (has_distinct_names n) → IsJson text n) →
    IfOk answer (λ text. IsTrue (has_comparables q) → depth (query_node q) ≤ 128 → IsQueryText text q)
written_of q n (Ok text) is distances json =
    of_tree q text distances
    (subst (λ (m : Node). depth m ≤ 128 → IsTrue (has_distinct_names m) → IsJson text m) is json)
written_of q n (Err e) is distances json = tt
