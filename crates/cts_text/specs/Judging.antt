-- What judging a node answers: the number behind it, or that of the first faulty node in it.
use Rattle.std.specs.Prelude.{ℕ, ◌≡◌, ◌+◌, List, ◌∷◌, ◌++◌, sum_by, Option, Some, None, Result, Ok, Err}
use Rattle.doc_model.specs.declared.node.Node.{Node}
use Rattle.cts_meaning.specs.Faults.{AreFaultless, IsFaultless, IsFirstFault, node_count}
use Rattle.cts_meaning.specs.Shapes.{ShapedNode}
use Rattle.cts_meaning.specs.declared.shape.Shape.{Shape}

-- the nodes of all parts
abbrev pub part_count : List ShapedNode → ℕ
part_count parts = sum_by (λ part. node_count part.1) parts

-- counted from the first part on, this is the number of the first faulty node in the parts
pub record IsFirstAmong (parts : List ShapedNode) (number : ℕ) : Type 0 where
  pub before : List ShapedNode
  pub part : ShapedNode
  pub behind : List ShapedNode
  pub inner : ℕ
  pub are : parts ≡ before ++ part ∷ behind
  pub clean : AreFaultless before
  pub first : IsFirstFault part.0 part.1 inner
  pub is : number ≡ part_count before + inner

-- the parts from this number on
abbrev pub JudgesParts : List ShapedNode → ℕ → Result ℕ ℕ → Type 0
JudgesParts parts number (Ok next) = AreFaultless parts × (next ≡ number + part_count parts)
JudgesParts parts number (Err faulty) = (inner : ℕ) × IsFirstAmong parts inner × (faulty ≡ number + inner)

-- a node with this number, by its parts
abbrev pub JudgesBy : Option (List ShapedNode) → ℕ → Result ℕ ℕ → Type 0
JudgesBy None number answer = answer ≡ Err number
JudgesBy (Some parts) number answer = JudgesParts parts (number + 1) answer

-- a node with this number
abbrev pub Judges : Shape → Node → ℕ → Result ℕ ℕ → Type 0
Judges wanted n number (Ok next) = IsFaultless wanted n × (next ≡ number + node_count n)
Judges wanted n number (Err faulty) = (inner : ℕ) × IsFirstFault wanted n inner × (faulty ≡ number + inner)
