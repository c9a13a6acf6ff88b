-- Laws of what queries' JSON says.
use Rattle.std.specs.Prelude.{ℕ, ◌≡◌, ◌⊎◌, ◌<◌, ◌≤◌, IsTrue}
use Rattle.doc_model.specs.Tree.{depth}
use Rattle.doc_model.specs.declared.node.Node.{Node}
use Rattle.doc_model.specs.declared.query.Query.{Query}
use Rattle.json_text.specs.Canonical.{has_values}
use Rattle.cts_meaning.specs.Canonical.{has_comparables, has_distances, query_node, query_text}
use Rattle.cts_meaning.specs.Faults.{FaultIn, IsQueryFault, node_count}
use Rattle.cts_meaning.specs.Saying.{IsQuery, IsQueryText}
use Rattle.cts_meaning.specs.declared.shape.Shape.{Shape}

-- a tree is one query at most
abbrev pub OneQueryIsSaid : Type 0
OneQueryIsSaid = (n : Node) (q r : Query) → IsQuery n q → IsQuery n r → q ≡ r

-- the number of a fault is that of a node of the tree
abbrev pub FaultsLieInside : Type 0
FaultsLieInside = (shape : Shape) (n : Node) (number : ℕ) → FaultIn shape n number → number < node_count n

-- a tree is a query, or has a first fault
abbrev pub EachTreeIsJudged : Type 0
EachTreeIsJudged = (n : Node) → ((q : Query) × IsQuery n q) ⊎ ((number : ℕ) × IsQueryFault n number)

-- what is written is read again: the canonical text is the query, where it nests at most 128 arrays and objects, its
-- range queries compare with numbers and texts alone, its distances fit 32 bits, its texts are UTF-8 and its numbers
-- decimals
abbrev pub CanonicalTextsAreRead : Type 0
CanonicalTextsAreRead = (q : Query) → IsTrue (has_comparables q) → IsTrue (has_distances q)
    → IsTrue (has_values (query_node q)) → depth (query_node q) ≤ 128 → IsQueryText (query_text q) q
