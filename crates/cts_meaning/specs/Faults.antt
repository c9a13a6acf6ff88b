-- Where the JSON of a query has a fault. Nodes are numbered in preorder from 0, an object's members in their order; of
-- members written with one name the last value is the one node that there is, in the first one's place.
use Rattle.std.specs.Prelude.{ℕ, ◌≡◌, ◌+◌, ◌≤◌, List, [], ◌∷◌, ◌++◌, Some, None, sum, sum_by}
use Rattle.doc_model.specs.declared.node.Node.{Node}
use Rattle.doc_model.specs.declared.node.Node.TheOpen.{Node-F}
use Rattle.doc_model.specs.declared.node.Node.TheFolds.{fold-Node}
use Rattle.cts_meaning.specs.Shapes.{ShapedNode, shaped_children}
use Rattle.cts_meaning.specs.declared.shape.Shape.{Shape}
use Rattle.cts_meaning.specs.declared.shape.Shape.TheVariants.{Query}

-- a node and all nodes in it
abbrev pub count_step : Node-F ℕ → ℕ
count_step (Node-F.Items items) = 1 + sum items
count_step (Node-F.Members members) = 1 + sum_by (λ member. member.1) members
count_step Node-F.Null = 1
count_step (Node-F.Bool b) = 1
count_step (Node-F.Num units) = 1
count_step (Node-F.Text text) = 1

abbrev pub node_count : Node → ℕ
node_count = fold-Node ℕ count_step

-- the number of the part behind these, counted from the node whose parts they are
abbrev pub number_behind : List ShapedNode → ℕ
number_behind before = 1 + sum_by (λ part. node_count part.1) before

-- of a node that is judged as a shape, this number, counted from the node on, is that of a faulty one: of the node
-- itself, where it doesn't fit; or else of one in a part of it, judged as the part's shape. So nothing below a faulty
-- node is judged
pub data FaultIn : Shape → Node → ℕ → Type 0 where
  here : (shape : Shape) (n : Node) (number : ℕ) → shaped_children shape n ≡ None → number ≡ 0 → FaultIn shape n number
  inside : (shape : Shape) (n : Node) (number : ℕ) (before behind : List ShapedNode) (part : ShapedNode) (inner : ℕ)
      → shaped_children shape n ≡ Some (before ++ part ∷ behind) → FaultIn part.0 part.1 inner
      → number ≡ number_behind before + inner → FaultIn shape n number

-- nothing in the node is faulty
abbrev pub IsFaultless : Shape → Node → Type 0
IsFaultless shape n = (number : ℕ) → FaultIn shape n number → ⊥

-- nor in any of the parts
abbrev pub AreFaultless : List ShapedNode → Type 0
AreFaultless [] = Unit {0}
AreFaultless (part ∷ parts) = IsFaultless part.0 part.1 × AreFaultless parts

-- the least number of a faulty node
pub record IsFirstFault (shape : Shape) (n : Node) (number : ℕ) : Type 0 where
  pub faulty : FaultIn shape n number
  pub least : (other : ℕ) → FaultIn shape n other → number ≤ other

-- of a whole tree that is to be a query
abbrev pub IsQueryFault : Node → ℕ → Type 0
IsQueryFault n number = IsFirstFault Query n number
