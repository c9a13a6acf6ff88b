-- The bytes of a document.
use Rattle.std.specs.Prelude.{◌≡◌, ℕ, ℤ, pos, negsuc, Bool, true, ◌&&◌, int_lt, ◌-◌, ◌^◌, List, [], ◌∷◌, ◌++◌}
use Rattle.std.specs.Prelude.{length, IsTrue, if◌then◌else◌}
use Rattle.std.specs.Int.{w128, cast_unsigned}
use Rattle.std.specs.List.{flat_map, list_all}
use Rattle.std.specs.Str.{is_utf8}
use Rattle.byteorder.specs.Endian.{big_bytes}
use Rattle.doc_model.specs.Documents.{PlainDocument, IsDocument}
use Rattle.doc_model.specs.declared.node.Node.{Node}
use Rattle.doc_model.specs.declared.node.Node.TheOpen.{Node-F}
use Rattle.doc_model.specs.declared.node.Node.TheFolds.{fold-Node}

-- a count or a length in four bytes, the highest first
unfoldable pub count : ℕ → List ℕ
count n = big_bytes 4 n

-- a number of units in two's complement, in sixteen bytes
unfoldable pub number : ℤ → List ℕ
number units = big_bytes 16 (cast_unsigned w128 units)

-- a text: its length, and its bytes
abbrev pub text : List ℕ → List ℕ
text bytes = count (length bytes) ++ bytes

-- a node: a byte for its kind, and its content
abbrev pub node_step : Node-F (List ℕ) → List ℕ
node_step Node-F.Null = 0 ∷ []
node_step (Node-F.Bool b) = (if b then 2 else 1) ∷ []
node_step (Node-F.Num units) = 3 ∷ number units
node_step (Node-F.Text t) = 4 ∷ text t
node_step (Node-F.Items items) = 5 ∷ count (length items) ++ flat_map (λ item. item) items
node_step (Node-F.Members members) =
    6 ∷ count (length members) ++ flat_map (λ member. text member.0 ++ member.1) members

abbrev pub node : Node → List ℕ
node = fold-Node (List ℕ) node_step

-- the content of an array: how many items, and each
abbrev pub items : List Node → List ℕ
items list = count (length list) ++ flat_map node list

-- the content of an object: how many members, and the name and value of each
abbrev pub members : List (List ℕ × Node) → List ℕ
members list = count (length list) ++ flat_map (λ member. text member.0 ++ node member.1) list

-- how many texts, and each
abbrev pub texts : List (List ℕ) → List ℕ
texts list = count (length list) ++ flat_map text list

-- a document: its URI, its collections, and its root
abbrev pub document : PlainDocument → List ℕ
document d = text d.uri ++ texts d.collections ++ node d.root

-- the magnitude is below 10^38
abbrev pub is_decimal : ℤ → Bool
is_decimal units = int_lt (negsuc (10 ^ 38 - 1)) units && int_lt units (pos (10 ^ 38))

-- the texts and names of a tree are UTF-8, and its numbers decimals
abbrev pub values_step : Node-F Bool → Bool
values_step Node-F.Null = true
values_step (Node-F.Bool b) = true
values_step (Node-F.Num units) = is_decimal units
values_step (Node-F.Text t) = is_utf8 t
values_step (Node-F.Items items) = list_all (λ item. item) items
values_step (Node-F.Members members) = list_all (λ member. is_utf8 member.0 && member.1) members

abbrev pub has_values : Node → Bool
has_values = fold-Node Bool values_step

-- the texts of a document are UTF-8, and its numbers decimals
abbrev pub are_values : PlainDocument → Bool
are_values d = is_utf8 d.uri && list_all is_utf8 d.collections && has_values d.root

-- the bytes are those of a document that keeps every rule
pub record Spells (bytes : List ℕ) (d : PlainDocument) : Type 0 where
  pub rules : IsDocument d
  pub values : IsTrue (are_values d)
  pub spelled : bytes ≡ document d
