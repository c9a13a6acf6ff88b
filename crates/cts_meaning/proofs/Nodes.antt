-- What a node holds, read off its layer: so nodes of two sorts differ, and those of one sort have the same parts.
use Rattle.std.proofs.Common.{◌≡◌, ℕ, ℤ, pos, Bool, List, [], refl, sym, ap, ◌∙◌}
use Rattle.doc_model.specs.declared.node.Node.{Node}
use Rattle.doc_model.specs.declared.node.Node.TheVariants as node
use Rattle.doc_model.specs.declared.node.Node.TheOpen.{Node-F}
use Rattle.doc_model.specs.declared.node.Node.TheFolds.{ind-Node}
use Rattle.doc_model.specs.declared.node.Node.TheViews.{out-Node, out-roll-Node, roll-Node}
use Rattle.json_text.specs.Grammar.{Member}

-- ---- layers

pub out_null : out-Node node.Null ≡ Node-F.Null
out_null = ap out-Node (sym node.rolls-Null) ∙ out-roll-Node Node-F.Null

pub out_bool : (b : Bool) → out-Node (node.Bool b) ≡ Node-F.Bool b
out_bool b = ap out-Node (sym (node.rolls-Bool b)) ∙ out-roll-Node (Node-F.Bool b)

pub out_number : (k : ℤ) → out-Node (node.Num k) ≡ Node-F.Num k
out_number k = ap out-Node (sym (node.rolls-Num k)) ∙ out-roll-Node (Node-F.Num k)

pub out_text : (text : List ℕ) → out-Node (node.Text text) ≡ Node-F.Text text
out_text text = ap out-Node (sym (node.rolls-Text text)) ∙ out-roll-Node (Node-F.Text text)

pub out_items : (items : List Node) → out-Node (node.Items items) ≡ Node-F.Items items
out_items items = ap out-Node (sym (node.rolls-Items items)) ∙ out-roll-Node (Node-F.Items items)

pub out_members : (members : List Member) → out-Node (node.Members members) ≡ Node-F.Members members
out_members members = ap out-Node (sym (node.rolls-Members members)) ∙ out-roll-Node (Node-F.Members members)

-- ---- sorts

abbrev layer_sort : Node-F Node → ℕ
layer_sort Node-F.Null = 0
layer_sort (Node-F.Bool b) = 1
layer_sort (Node-F.Num k) = 2
layer_sort (Node-F.Text text) = 3
layer_sort (Node-F.Items items) = 4
layer_sort (Node-F.Members members) = 5

-- a number for each sort of node
pub sort_of : Node → ℕ
sort_of n = layer_sort (out-Node n)

pub sort_null : sort_of node.Null ≡ 0
unfolding sort_of
sort_null = ap layer_sort out_null

pub sort_bool : (b : Bool) → sort_of (node.Bool b) ≡ 1
unfolding sort_of
sort_bool b = ap layer_sort (out_bool b)

pub sort_number : (k : ℤ) → sort_of (node.Num k) ≡ 2
unfolding sort_of
sort_number k = ap layer_sort (out_number k)

pub sort_text : (text : List ℕ) → sort_of (node.Text text) ≡ 3
unfolding sort_of
sort_text text = ap layer_sort (out_text text)

pub sort_items : (items : List Node) → sort_of (node.Items items) ≡ 4
unfolding sort_of
sort_items items = ap layer_sort (out_items items)

pub sort_members : (members : List Member) → sort_of (node.Members members) ≡ 5
unfolding sort_of
sort_members members = ap layer_sort (out_members members)

-- ---- parts

abbrev layer_items : Node-F Node → List Node
layer_items (Node-F.Items items) = items
layer_items _ = []

abbrev layer_members : Node-F Node → List Member
layer_members (Node-F.Members members) = members
layer_members _ = []

abbrev layer_text : Node-F Node → List ℕ
layer_text (Node-F.Text text) = text
layer_text _ = []

abbrev layer_number : Node-F Node → ℤ
layer_number (Node-F.Num k) = k
layer_number _ = pos 0

-- the items of an array, none of any other node
pub items_in : Node → List Node
items_in n = layer_items (out-Node n)

pub items_in_array : (items : List Node) → items_in (node.Items items) ≡ items
unfolding items_in
items_in_array items = ap layer_items (out_items items)

pub items_in_null : items_in node.Null ≡ []
unfolding items_in
items_in_null = ap layer_items out_null

pub items_in_bool : (b : Bool) → items_in (node.Bool b) ≡ []
unfolding items_in
items_in_bool b = ap layer_items (out_bool b)

pub items_in_number : (k : ℤ) → items_in (node.Num k) ≡ []
unfolding items_in
items_in_number k = ap layer_items (out_number k)

pub items_in_text : (text : List ℕ) → items_in (node.Text text) ≡ []
unfolding items_in
items_in_text text = ap layer_items (out_text text)

-- the members of an object, none of any other node
pub members_in : Node → List Member
members_in n = layer_members (out-Node n)

pub members_in_object : (members : List Member) → members_in (node.Members members) ≡ members
unfolding members_in
members_in_object members = ap layer_members (out_members members)

-- the text of a string, none of any other node
pub text_in : Node → List ℕ
text_in n = layer_text (out-Node n)

pub text_in_string : (text : List ℕ) → text_in (node.Text text) ≡ text
unfolding text_in
text_in_string text = ap layer_text (out_text text)

-- the number of a number, 0 of any other node
pub number_in : Node → ℤ
number_in n = layer_number (out-Node n)

pub number_in_number : (k : ℤ) → number_in (node.Num k) ≡ k
unfolding number_in
number_in_number k = ap layer_number (out_number k)

-- ---- cases

-- what a node is
pub data Sort (n : Node) : Type 0 where
  is_null : n ≡ node.Null → Sort n
  is_bool : (b : Bool) → n ≡ node.Bool b → Sort n
  is_number : (k : ℤ) → n ≡ node.Num k → Sort n
  is_text : (text : List ℕ) → n ≡ node.Text text → Sort n
  is_array : (items : List Node) → n ≡ node.Items items → Sort n
  is_object : (members : List Member) → n ≡ node.Members members → Sort n

abbrev Opened : Node → Type 0
Opened n = (z : Node-F Node) × (roll-Node z ≡ n)

opened : (n : Node) → Opened n
opened = ind-Node Opened (λ x y is. (x, refl))

sort_by : (n : Node) → Opened n → Sort n
sort_by n (Node-F.Null, is) = is_null (sym is ∙ node.rolls-Null)
sort_by n (Node-F.Bool b, is) = is_bool b (sym is ∙ node.rolls-Bool b)
sort_by n (Node-F.Num k, is) = is_number k (sym is ∙ node.rolls-Num k)
sort_by n (Node-F.Text text, is) = is_text text (sym is ∙ node.rolls-Text text)
sort_by n (Node-F.Items items, is) = is_array items (sym is ∙ node.rolls-Items items)
sort_by n (Node-F.Members members, is) = is_object members (sym is ∙ node.rolls-Members members)

pub sort : (n : Node) → Sort n
sort n = sort_by n (opened n)
