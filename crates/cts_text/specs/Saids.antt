-- A query is the only one that a tree without faults may say.
use Rattle.std.specs.Prelude.{ℕ, ◌≡◌, List, Option, Some}
use Rattle.doc_model.specs.declared.node.Node.{Node}
use Rattle.doc_model.specs.declared.node.Node.TheVariants as node
use Rattle.doc_model.specs.declared.query.Query.{Query}
use Rattle.json_text.specs.Grammar.{Each, Member}
use Rattle.cts_meaning.specs.Faults.{AreFaultless, IsFaultless}
use Rattle.cts_meaning.specs.Saying.{AreChildren, IsChild, Says, SaysAs}
use Rattle.cts_meaning.specs.Shapes.{item_parts}
use Rattle.cts_meaning.specs.declared.form.QueryForm.{QueryForm}
use Rattle.cts_meaning.specs.declared.shape.Shape.TheVariants as shape

-- of a tree
abbrev pub IsSaid : Node → Query → Type 0
IsSaid n q = IsFaultless shape.Query n → (depth : ℕ) (said : Query) → Says depth n said → q ≡ said

-- of a form and the members of its argument object
abbrev pub IsSaidAs : QueryForm → List Member → Query → Type 0
IsSaidAs f members q =
    IsFaultless (shape.Argument f) (node.Members members)
    → (depth : ℕ) (said : Query) → SaysAs (Says depth) f members said → q ≡ said

-- of a form and its argument
abbrev pub IsSaidBy : QueryForm → Node → Query → Type 0
IsSaidBy f argument q = (members : List Member) → argument ≡ node.Members members → IsSaidAs f members q

-- of a value that is there
abbrev pub IsSaidAt : Option Node → Query → Type 0
IsSaidAt found q =
    ((n : Node) → found ≡ Some n → IsFaultless shape.Query n)
    → (depth : ℕ) (said : Query) → IsChild (Says depth) found said → q ≡ said

-- of a value that is there and is an array
abbrev pub AreSaidAt : Option Node → List Query → Type 0
AreSaidAt found queries =
    ((n : Node) → found ≡ Some n → IsFaultless shape.Queries n)
    → (depth : ℕ) (said : List Query) → AreChildren (Says depth) found said → queries ≡ said

-- of some trees
abbrev pub AreSaid : List Node → List Query → Type 0
AreSaid items queries =
    AreFaultless (item_parts shape.Query items)
    → (depth : ℕ) (said : List Query) → Each (Says depth) items said → queries ≡ said
