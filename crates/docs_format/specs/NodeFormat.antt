-- The formats of numbers and nodes.
use Rattle.std.specs.Prelude.{ℕ, zero, suc, ℤ, Bool, true, false, not, nat_lt, ◌==◌, List, [], ◌∷◌, ◌++◌}
use Rattle.std.specs.Prelude.{Option, Some, None, if◌then◌else◌}
use Rattle.std.specs.Bool.{beq}
use Rattle.std.specs.Int.{w128, cast_signed, cast_unsigned}
use Rattle.byte_formats.specs.Fields.{listed, tagged, text, wide}
use Rattle.byte_formats.specs.Format.{Format, both, constant, keeping, made}
use Rattle.byte_formats.specs.Leb.{nothing}
use Rattle.doc_model.specs.Tree.{is_among}
use Rattle.doc_model.specs.declared.node.Node.{Node}
use Rattle.doc_model.specs.declared.node.Node.TheOpen.{Node-F}
use Rattle.doc_model.specs.declared.node.Node.TheViews.{out-Node, roll-Node}
use Rattle.docs_format.specs.Spelling.{is_decimal}

abbrev pub bits_of : ℤ → Option ℕ
bits_of units = if is_decimal units then Some (cast_unsigned w128 units) else None

abbrev pub are_bits : ℕ → Bool
are_bits n = is_decimal (cast_signed w128 n)

-- a number in two's complement
unfoldable pub number : Format ℤ
number = made (cast_signed w128) bits_of (keeping are_bits (wide 16))

-- a node with its outermost layer open
abbrev pub Layer : Type 0
Layer = Node-F Node

abbrev pub kind : Layer → ℕ
kind Node-F.Null = 0
kind (Node-F.Bool b) = if b then 2 else 1
kind (Node-F.Num n) = 3
kind (Node-F.Text t) = 4
kind (Node-F.Items xs) = 5
kind (Node-F.Members ms) = 6

abbrev pub is_null : Layer → Bool
is_null Node-F.Null = true
is_null _ = false

abbrev pub is_bool : Bool → Layer → Bool
is_bool b (Node-F.Bool c) = beq c b
is_bool b _ = false

abbrev pub number_in : Layer → Option ℤ
number_in (Node-F.Num n) = Some n
number_in _ = None

abbrev pub text_in : Layer → Option (List ℕ)
text_in (Node-F.Text t) = Some t
text_in _ = None

abbrev pub items_in : Layer → Option (List Node)
items_in (Node-F.Items xs) = Some xs
items_in _ = None

abbrev pub members_in : Layer → Option (List (List ℕ × Node))
members_in (Node-F.Members ms) = Some ms
members_in _ = None

-- what follows a kind, given the formats of arrays and objects
abbrev pub body : Format (List Node) → Format (List (List ℕ × Node)) → ℕ → Format Layer
body items members k =
    if k == 0 then constant Node-F.Null is_null
    else if k == 1 then constant (Node-F.Bool false) (is_bool false)
    else if k == 2 then constant (Node-F.Bool true) (is_bool true)
    else if k == 3 then made Node-F.Num number_in number
    else if k == 4 then made Node-F.Text text_in text
    else if k == 5 then made Node-F.Items items_in items
    else if k == 6 then made Node-F.Members members_in members
    else nothing

-- a member, whose name isn't among those before
abbrev pub member : Format Node → List (List ℕ) → Format (List ℕ × Node)
member value before = both (keeping (λ name. not (is_among before name)) text) (λ _. value)

abbrev pub name_behind : List (List ℕ) → List ℕ × Node → List (List ℕ)
name_behind before m = before ++ m.0 ∷ []

abbrev pub same : Bool → Node → Bool
same b n = b

abbrev pub opened : Node → Option Layer
opened n = Some (out-Node n)

-- a node in which arrays and objects nest at most this deep; one that nests deeper is invalid at its kind
unfoldable pub node : ℕ → Format Node
node zero = made roll-Node opened (tagged (λ k. nat_lt k 5) kind (body nothing nothing))
node (suc depth) =
    made roll-Node opened
    (tagged (λ k. nat_lt k 7) kind
    (body (listed (λ _. true) (λ b. node depth) same true) (listed (λ _. true) (member (node depth)) name_behind [])))
