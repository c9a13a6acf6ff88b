-- Laws of the strings of a tree and the positions of their words.
use Rattle.std.specs.Prelude.{ℕ, ◌≡◌, ◌+◌, ◌<◌, ◌≤◌, length, sum_by, Some, slice_get}
use Rattle.doc_model.specs.Tree.{size}
use Rattle.doc_model.specs.declared.node.Node.{Node}
use Rattle.doc_meaning.specs.declared.string_node.StringNode.{StringNode}
use Rattle.doc_meaning.specs.Strings.{strings}
use Rattle.doc_meaning.specs.Words.{plain}

-- the strings of a tree have fewer words than its size
abbrev pub FewerWordsThanSize : Type 0
FewerWordsThanSize = (root : Node) → sum_by (λ s. length (plain s.text)) (strings root) < size root

-- the positions of a string are below the first position of each later one
abbrev pub FirstPositionsRise : Type 0
FirstPositionsRise = (root : Node) (j k : ℕ) (s t : StringNode) → j < k → slice_get (strings root) j ≡ Some s →
    slice_get (strings root) k ≡ Some t → s.first_position + length (plain s.text) ≤ t.first_position
