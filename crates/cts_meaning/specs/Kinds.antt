-- What a node holds, if it is of one kind.
use Rattle.std.specs.Prelude.{ℕ, ℤ, List, Option, Some, None}
use Rattle.doc_model.specs.declared.node.Node.{Node}
use Rattle.doc_model.specs.declared.node.Node.TheOpen.{Node-F}
use Rattle.doc_model.specs.declared.node.Node.TheViews.{out-Node}

-- a text
abbrev pub text_by : Node-F Node → Option (List ℕ)
text_by (Node-F.Text text) = Some text
text_by Node-F.Null = None
text_by (Node-F.Bool b) = None
text_by (Node-F.Num units) = None
text_by (Node-F.Items items) = None
text_by (Node-F.Members members) = None

abbrev pub text_in : Node → Option (List ℕ)
text_in n = text_by (out-Node n)

-- a number
abbrev pub number_by : Node-F Node → Option ℤ
number_by (Node-F.Num units) = Some units
number_by Node-F.Null = None
number_by (Node-F.Bool b) = None
number_by (Node-F.Text text) = None
number_by (Node-F.Items items) = None
number_by (Node-F.Members members) = None

abbrev pub number_in : Node → Option ℤ
number_in n = number_by (out-Node n)

-- the items of an array
abbrev pub items_by : Node-F Node → Option (List Node)
items_by (Node-F.Items items) = Some items
items_by Node-F.Null = None
items_by (Node-F.Bool b) = None
items_by (Node-F.Num units) = None
items_by (Node-F.Text text) = None
items_by (Node-F.Members members) = None

abbrev pub items_in : Node → Option (List Node)
items_in n = items_by (out-Node n)
