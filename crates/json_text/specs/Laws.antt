-- Laws of JSON texts (RFC 8259).
use Rattle.std.specs.Prelude.{ℕ, ◌≡◌, ◌≤◌, List, length, IsTrue}
use Rattle.doc_model.specs.Tree.{depth, has_distinct_names, size}
use Rattle.doc_model.specs.declared.node.Node.{Node}
use Rattle.json_text.specs.Canonical.{has_values, node_text}
use Rattle.json_text.specs.Faults.{IsRefusedText}
use Rattle.json_text.specs.Grammar.{IsJson}
use Rattle.json_text.specs.declared.bad.JsonBad.{JsonBad}

-- bytes are the text of one tree at most
abbrev pub OneTreeIsMeant : Type 0
OneTreeIsMeant = (bytes : List ℕ) (v w : Node) → IsJson bytes v → IsJson bytes w → v ≡ w

-- they are refused in one way at most
abbrev pub RefusedInOneWay : Type 0
RefusedInOneWay =
    (bytes : List ℕ) (why other : JsonBad) → IsRefusedText bytes why → IsRefusedText bytes other → why ≡ other

-- and not where they are a text
abbrev pub ReadOrRefused : Type 0
ReadOrRefused = (bytes : List ℕ) (v : Node) (why : JsonBad) → IsJson bytes v → IsRefusedText bytes why → ⊥

-- a tree has distinct names, nests at most 128 arrays and objects, and is no larger than its text
pub record KeepsRules (bytes : List ℕ) (v : Node) : Type 0 where
  pub names : IsTrue (has_distinct_names v)
  pub nests : depth v ≤ 128
  pub small : size v ≤ length bytes

abbrev pub TreesKeepRules : Type 0
TreesKeepRules = (bytes : List ℕ) (v : Node) → IsJson bytes v → KeepsRules bytes v

-- the canonical text of a tree is a text of that tree
abbrev pub CanonicalTextsAreRead : Type 0
CanonicalTextsAreRead = (v : Node) →
    IsTrue (has_values v) → depth v ≤ 128 → IsTrue (has_distinct_names v) → IsJson (node_text v) v
