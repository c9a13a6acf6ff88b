-- Reading from left to right, up to the first invalid field.
use Rattle.std.specs.Prelude.{ℕ, zero, suc, ℤ, ◌-◌, ◌^◌, Bool, true, false, ◌&&◌, not, nat_lt, nat_le, ◌==◌, List}
use Rattle.std.specs.Prelude.{[], ◌∷◌, ◌++◌, map, length, take, drop, Result, Ok, Err, if◌then◌else◌}
use Rattle.std.specs.Cmp.Lexicographic.{slice_cmp}
use Rattle.std.specs.Int.{w128, cast_signed}
use Rattle.std.specs.Ordering.{nat_cmp, is_lt}
use Rattle.std.specs.Str.{is_utf8}
use Rattle.byteorder.specs.Endian.{big_number}
use Rattle.byte_formats.specs.Format.{◌>>=◌, Read}
use Rattle.doc_model.specs.Documents.{PlainDocument, document_size}
use Rattle.doc_model.specs.Tree.{is_among}
use Rattle.doc_model.specs.Uri.{is_name, is_uri}
use Rattle.doc_model.specs.declared.node.Node.{Node}
use Rattle.doc_model.specs.declared.node.Node.TheVariants as node
use Rattle.byte_formats.specs.declared.error.FieldError.{FieldError}
use Rattle.byte_formats.specs.declared.error.FieldError.TheVariants.{Truncated, Invalid}
use Rattle.docs_format.specs.Spelling.{is_decimal}

-- a field that keeps a rule; one that breaks it is invalid at its first byte
abbrev pub keeping : {X : Type 0} → (X → Bool) → (List ℕ → Read X) → List ℕ → Read X
keeping rule field_at bytes = do
  field ← field_at bytes
  if rule field.0 then Ok field else Err (Invalid (length bytes))

-- a number of `width` bytes, big-endian
unfoldable pub wide_at : ℕ → List ℕ → Read ℕ
wide_at width bytes =
    if nat_lt (length bytes) width then Err (Truncated (length bytes))
    else Ok (big_number width bytes, drop width bytes)

unfoldable pub count_at : List ℕ → Read ℕ
count_at = wide_at 4

-- two's complement
unfoldable pub units_at : List ℕ → Read ℤ
units_at bytes = do
  bits ← wide_at 16 bytes
  Ok (cast_signed w128 bits.0, bits.1)

unfoldable pub number_at : List ℕ → Read ℤ
number_at = keeping is_decimal units_at

-- a length, and as many bytes; bytes that end early truncate the field that begins at its length
unfoldable pub bytes_at : List ℕ → Read (List ℕ)
bytes_at bytes = do
  len ← count_at bytes
  if nat_lt (length len.1) len.0 then Err (Truncated (length bytes)) else Ok (take len.0 len.1, drop len.0 len.1)

unfoldable pub text_at : List ℕ → Read (List ℕ)
text_at = keeping is_utf8 bytes_at

unfoldable pub uri_at : List ℕ → Read (List ℕ)
uri_at = keeping is_uri text_at

-- n values after those that were read; how each is read may depend on those before it
unfoldable pub list_at : {X : Type 0} → (List X → List ℕ → Read X) → List X → ℕ → List ℕ → Read (List X)
list_at item_at before zero bytes = Ok (before, bytes)
list_at item_at before (suc n) bytes = do
  item ← item_at before bytes
  list_at item_at (before ++ item.0 ∷ []) n item.1

-- the last of some names, or the empty one
abbrev pub last_of : List (List ℕ) → List ℕ
last_of [] = []
last_of (name ∷ []) = name
last_of (name ∷ next ∷ names) = last_of (next ∷ names)

-- a collection's name that may follow `last`
abbrev pub is_next : List ℕ → List ℕ → Bool
is_next last name = is_name name && is_lt (slice_cmp nat_cmp last name)

unfoldable pub collection_at : List ℕ → List ℕ → Read (List ℕ)
collection_at last = keeping (is_next last) text_at

unfoldable pub collections_at : List ℕ → Read (List (List ℕ))
collections_at bytes = do
  n ← keeping (λ n. nat_le n 64) count_at bytes
  list_at (λ before. collection_at (last_of before)) [] n.0 n.1

-- the name of a member isn't among those before it
unfoldable pub name_at : List (List ℕ) → List ℕ → Read (List ℕ)
name_at before = keeping (λ name. not (is_among before name)) text_at

-- the names of members
abbrev pub names : List (List ℕ × Node) → List (List ℕ)
names members = map (λ member. member.0) members

-- a member after others, given how to read a value
unfoldable pub member_at : (List ℕ → Read Node) → List (List ℕ × Node) → List ℕ → Read (List ℕ × Node)
member_at value_at before bytes = do
  name ← name_at (names before) bytes
  value ← value_at name.1
  Ok ((name.0, value.0), value.1)

-- the items of an array
unfoldable pub items_at : (List ℕ → Read Node) → List ℕ → Read Node
items_at value_at bytes = do
  n ← count_at bytes
  items ← list_at (λ before. value_at) [] n.0 n.1
  Ok (node.Items items.0, items.1)

-- the members of an object
unfoldable pub members_at : (List ℕ → Read Node) → List ℕ → Read Node
members_at value_at bytes = do
  n ← count_at bytes
  members ← list_at (member_at value_at) [] n.0 n.1
  Ok (node.Members members.0, members.1)

unfoldable pub kind_at : List ℕ → Read ℕ
kind_at [] = Err (Truncated 0)
kind_at (kind ∷ rest) = Ok (kind, rest)

-- a node, given how to read the rest of an array and of an object
unfoldable pub node_of : (List ℕ → Read Node) → (List ℕ → Read Node) → List ℕ → Read Node
node_of array_at object_at bytes = do
  kind ← kind_at bytes
  if kind.0 == 0 then Ok (node.Null, kind.1)
      else if kind.0 == 1 then Ok (node.Bool false, kind.1)
      else if kind.0 == 2 then Ok (node.Bool true, kind.1)
      else if kind.0 == 3 then (number_at kind.1 >>= λ units. Ok (node.Num units.0, units.1))
      else if kind.0 == 4 then (text_at kind.1 >>= λ text. Ok (node.Text text.0, text.1))
      else if kind.0 == 5 then array_at kind.1
      else if kind.0 == 6 then object_at kind.1
      else Err (Invalid (length bytes))

-- a node in which arrays and objects nest at most this deep; one that nests deeper is invalid at its kind
unfoldable pub node_at : ℕ → List ℕ → Read Node
node_at zero bytes = node_of (λ rest. Err (Invalid (length bytes))) (λ rest. Err (Invalid (length bytes))) bytes
node_at (suc depth) bytes = node_of (items_at (node_at depth)) (members_at (node_at depth)) bytes

unfoldable pub document_at : List ℕ → Read PlainDocument
document_at bytes = do
  uri ← uri_at bytes
  collections ← collections_at uri.1
  root ← node_at 128 collections.1
  Ok (record { uri = uri.0; collections = collections.0; root = root.0 }, root.1)

-- a document of at most the greatest size; a larger one is invalid at its first byte
unfoldable pub sized_document_at : List ℕ → Read PlainDocument
sized_document_at = keeping (λ d. not (nat_lt (2 ^ 24) (document_size d))) document_at

-- a document with no byte after it; one that is too large is invalid at its first byte
unfoldable pub whole_of : List ℕ → Result PlainDocument FieldError
whole_of bytes = do
  d ← document_at bytes
  if not (length d.1 == 0) then Err (Invalid (length d.1))
      else if nat_lt (2 ^ 24) (document_size d.0) then Err (Invalid (length bytes))
      else Ok d.0

-- the place of an error in bytes of this length; it is the length if they end early
abbrev pub place_of : ℕ → FieldError → ℕ
place_of len (Truncated left) = len
place_of len (Invalid left) = len - left

-- the document, or the place of its error in bytes of this length
abbrev pub placed : ℕ → Result PlainDocument FieldError → Result PlainDocument ℕ
placed len (Ok d) = Ok d
placed len (Err fault) = Err (place_of len fault)

-- the document that bytes spell, or the place of the first invalid field
abbrev pub document_of : List ℕ → Result PlainDocument ℕ
document_of bytes = placed (length bytes) (whole_of bytes)
