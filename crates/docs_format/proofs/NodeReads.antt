-- Reading numbers, nodes and documents by the definitions is reading by the formats.
use Rattle.std.proofs.Common.{◌≡◌, ℕ, zero, suc, ℤ, ◌≤◌, Bool, true, false, cond, not, nat_le, nat_lt, ◌==◌, List, []}
use Rattle.std.proofs.Common.{◌∷◌, ◌++◌, length, Ok, Err, refl, sym, ap, subst, ◌∙◌, arith}
use Rattle.std.specs.Int.{w128, cast_signed}
use Rattle.std.proofs.lemmas.Bool.{eqb-false, eqb-true, le-ltb}
use Rattle.std.proofs.lemmas.List.{map_push}
use Rattle.byte_formats.specs.Fields as plain
use Rattle.byte_formats.specs.Fields.{listed, tagged, text}
use Rattle.byte_formats.specs.Format.{◌>>=◌, Format, Read, kept, made, many}
use Rattle.byte_formats.specs.Leb.{nothing}
use Rattle.byte_formats.specs.declared.error.FieldError.TheVariants.{Invalid}
use Rattle.byte_formats.proofs.Loops.{begins}
use Rattle.doc_model.specs.Documents.{PlainDocument}
use Rattle.doc_model.specs.Tree.{is_among}
use Rattle.doc_model.specs.Uri.{is_uri}
use Rattle.doc_model.specs.declared.node.Node.{Node}
use Rattle.doc_model.specs.declared.node.Node.TheOpen.{Node-F}
use Rattle.doc_model.specs.declared.node.Node.TheVariants as node
use Rattle.doc_model.specs.declared.node.Node.TheViews.{roll-Node}
use Rattle.docs_format.specs.DocumentFormat.{as_last, collection, document_of, fields}
use Rattle.docs_format.specs.NodeFormat as format
use Rattle.docs_format.specs.NodeFormat.{Layer, are_bits, body, kind, member, name_behind, number, opened, same}
use Rattle.docs_format.specs.Reading as reading
use Rattle.docs_format.specs.Reading.{collections_at, document_at, items_at, kind_at, list_at, member_at, members_at}
use Rattle.docs_format.specs.Reading.{names, node_at, node_of, number_at, uri_at}
use Rattle.docs_format.specs.Spelling.{is_decimal}
use Rattle.docs_format.proofs.FormatReads.{collections_same, counted_read, list_same, text_same, uncounted, with_count}

abbrev signed : ℕ × List ℕ → Read ℤ
signed bits = Ok (cast_signed w128 bits.0, bits.1)

decimal_same : (len : ℕ) (r : Read ℕ)
    → ((r >>= signed) >>= kept is_decimal len) ≡ ((r >>= kept are_bits len) >>= signed)
decimal_same len (Err error) = refl
decimal_same len (Ok n) = go (is_decimal (cast_signed w128 n.0))
  where
    go : (b : Bool)
        → (let r : Read ℤ = cond b (signed n) (Err (Invalid len)) in r) ≡ (cond b (Ok n) (Err (Invalid len)) >>= signed)
    go true = refl
    go false = refl

pub number_same : (bytes : List ℕ) → number_at bytes ≡ number.read bytes
unfolding number_at reading.units_at reading.wide_at number plain.wide_at
number_same bytes = decimal_same (length bytes) (plain.wide_at 16 bytes)

-- ---- a node of each kind

abbrev as_layer : {X : Type 0} → (X → Layer) → X × List ℕ → Read Layer
as_layer make x = Ok (make x.0, x.1)

abbrev as_node : Layer × List ℕ → Read Node
as_node y = Ok (roll-Node y.0, y.1)

abbrev built : {X : Type 0} → (X → Node) → X × List ℕ → Read Node
built make x = Ok (make x.0, x.1)

through : {X : Type 0} (layer : X → Layer) (make : X → Node) → ((x : X) → roll-Node (layer x) ≡ make x)
    → (k : ℕ) (r : Read X)
    → (r >>= built make) ≡ ((((r >>= as_layer layer) >>= with_count k) >>= uncounted) >>= as_node)
through layer make is k (Ok x) = ap (λ (n : Node). Ok (n, x.1)) (sym (is x.0))
through layer make is k (Err error) = refl

module _ (array_at object_at : List ℕ → Read Node) (items : Format (List Node))
    (members : Format (List (List ℕ × Node))) (known : ℕ → Bool) (rest : List ℕ) where
  abbrev Same : ℕ → Type 0
  Same k =
      node_of array_at object_at (k ∷ rest)
      ≡ (made roll-Node opened (tagged known kind (body items members))).read (k ∷ rest)

  same_null : known 0 ≡ true → Same 0
  unfolding node_of kind_at plain.byte_at
  same_null is_known = rw is_known (ap (λ (n : Node). Ok (n, rest)) (sym node.rolls-Null))

  same_false : known 1 ≡ true → Same 1
  unfolding node_of kind_at plain.byte_at
  same_false is_known = rw is_known (ap (λ (n : Node). Ok (n, rest)) (sym (node.rolls-Bool false)))

  same_true : known 2 ≡ true → Same 2
  unfolding node_of kind_at plain.byte_at
  same_true is_known = rw is_known (ap (λ (n : Node). Ok (n, rest)) (sym (node.rolls-Bool true)))

  same_number : known 3 ≡ true → Same 3
  unfolding node_of kind_at plain.byte_at
  same_number is_known = rw (is_known, number_same rest) (through Node-F.Num node.Num node.rolls-Num 3 (number.read rest))

  same_text : known 4 ≡ true → Same 4
  unfolding node_of kind_at plain.byte_at
  same_text is_known = rw (is_known, text_same rest) (through Node-F.Text node.Text node.rolls-Text 4 (text.read rest))

  same_array : known 5 ≡ true → array_at rest ≡ (items.read rest >>= built node.Items) → Same 5
  unfolding node_of kind_at plain.byte_at
  same_array is_known e = rw (is_known, e) (through Node-F.Items node.Items node.rolls-Items 5 (items.read rest))

  same_object : known 6 ≡ true → object_at rest ≡ (members.read rest >>= built node.Members) → Same 6
  unfolding node_of kind_at plain.byte_at
  same_object is_known e = rw (is_known, e) (through Node-F.Members node.Members node.rolls-Members 6 (members.read rest))

  module _ (k : ℕ) where
    pick : (j : ℕ) → Same j → ((k == j) ≡ false → Same k) → Same k
    pick j here other = go (k == j) refl
      where
        go : (b : Bool) → (k == j) ≡ b → Same k
        go true e = subst Same (sym (eqb-true k j e)) here
        go false e = other e

    same_other : known k ≡ false → (k == 0) ≡ false → (k == 1) ≡ false → (k == 2) ≡ false → (k == 3) ≡ false
        → (k == 4) ≡ false → (k == 5) ≡ false → (k == 6) ≡ false → Same k
    unfolding node_of kind_at plain.byte_at
    same_other is_unknown f0 f1 f2 f3 f4 f5 f6 = rw (f0, f1, f2, f3, f4, f5, f6, is_unknown) refl

    seven : (k == 0) ≡ false → (k == 1) ≡ false → (k == 2) ≡ false → (k == 3) ≡ false → (k == 4) ≡ false
        → (k == 5) ≡ false → (k == 6) ≡ false → 7 ≤ k
    seven f0 f1 f2 f3 f4 f5 f6 =
        let n1 : 1 ≤ k = omega (arith, eqb-false k 0 f0) in
        let n2 : 2 ≤ k = omega (arith, n1, eqb-false k 1 f1) in
        let n3 : 3 ≤ k = omega (arith, n2, eqb-false k 2 f2) in
        let n4 : 4 ≤ k = omega (arith, n3, eqb-false k 3 f3) in
        let n5 : 5 ≤ k = omega (arith, n4, eqb-false k 4 f4) in
        let n6 : 6 ≤ k = omega (arith, n5, eqb-false k 5 f5) in
        omega (arith, n6, eqb-false k 6 f6)

    same_any : known 0 ≡ true → known 1 ≡ true → known 2 ≡ true → known 3 ≡ true → known 4 ≡ true
        → (7 ≤ k → known k ≡ false) → Same 5 → Same 6 → Same k
    same_any y0 y1 y2 y3 y4 high array object =
        pick 0 (same_null y0)
        (λ f0. pick 1 (same_false y1)
        (λ f1. pick 2 (same_true y2)
        (λ f2. pick 3 (same_number y3)
        (λ f3. pick 4 (same_text y4)
        (λ f4. pick 5 array
        (λ f5. pick 6 object
        (λ f6. same_other (high (seven f0 f1 f2 f3 f4 f5 f6)) f0 f1 f2 f3 f4 f5 f6)))))))

-- ---- the content of an array or object

counted_same : {X : Type 0} (r : Read ℕ) (len : ℕ) (make : X → Node) (one body : ℕ → List ℕ → Read X)
    → ((n : ℕ) (rest : List ℕ) → one n rest ≡ body n rest)
    → (r >>= λ n. one n.0 n.1 >>= built make)
    ≡ ((((r >>= kept (λ _. true) len) >>= counted_read body) >>= uncounted) >>= built make)
counted_same (Err error) len make one body each = refl
counted_same {X = X} (Ok n) len make one body each =
    ap (λ (r : Read X). r >>= built make) (each n.0 n.1) ∙ go (body n.0 n.1)
  where
    go : (r : Read X) → (r >>= built make) ≡ (((r >>= with_count n.0) >>= uncounted) >>= built make)
    go (Ok x) = refl
    go (Err error) = refl

abbrev pair_with : List ℕ × List ℕ → Node × List ℕ → Read (List ℕ × Node)
pair_with name value = Ok ((name.0, value.0), value.1)

module _ (value_at : List ℕ → Read Node) (value : Format Node)
    (each : (bytes : List ℕ) → value_at bytes ≡ value.read bytes) where
  items_same : (bytes : List ℕ)
      → items_at value_at bytes ≡ ((listed (λ _. true) (λ b. value) same true).read bytes >>= built node.Items)
  unfolding items_at reading.count_at reading.wide_at plain.wide_at
  items_same bytes =
      counted_same (plain.wide_at 4 bytes) (length bytes) node.Items (λ n rest. list_at (λ before. value_at) [] n rest)
      (λ n rest. (many (λ b. value) same true n).read rest)
      (λ n rest.
      list_same (λ before. value_at) (λ b. value) same (λ before. true) (λ before. each) (λ before x. refl) n [] rest
      ∙ begins ((many (λ b. value) same true n).read rest))

  member_same : (before : List (List ℕ × Node)) (bytes : List ℕ)
      → member_at value_at before bytes ≡ (member value (names before)).read bytes
  unfolding member_at reading.name_at
  member_same before bytes =
      rw (text_same bytes) (go (text.read bytes >>= kept (λ name. not (is_among (names before) name)) (length bytes)))
    where
      go : (r : Read (List ℕ))
          → (r >>= λ name. value_at name.1 >>= pair_with name) ≡ (r >>= λ name. value.read name.1 >>= pair_with name)
      go (Ok name) = rw (each name.1) refl
      go (Err error) = refl

  members_same : (bytes : List ℕ)
      → members_at value_at bytes
      ≡ ((listed (λ _. true) (member value) name_behind []).read bytes >>= built node.Members)
  unfolding members_at reading.count_at reading.wide_at plain.wide_at
  members_same bytes =
      counted_same (plain.wide_at 4 bytes) (length bytes) node.Members
      (λ n rest. list_at (member_at value_at) [] n rest) (λ n rest. (many (member value) name_behind [] n).read rest)
      (λ n rest.
      list_same (member_at value_at) (member value) name_behind names member_same
      (λ before x. sym (map_push (λ (m : List ℕ × Node). m.0) before x)) n [] rest
      ∙ begins ((many (member value) name_behind [] n).read rest))

pub node_same : (depth : ℕ) (bytes : List ℕ) → node_at depth bytes ≡ (format.node depth).read bytes
unfolding node_at node_of kind_at plain.byte_at format.node
node_same zero [] = refl
node_same (suc depth) [] = refl
node_same zero (k ∷ rest) =
    let out : List ℕ → Read Node = λ r. Err (Invalid (length (k ∷ rest))) in
    same_any out out nothing nothing (λ j. nat_lt j 5) rest k refl refl refl refl refl
    (λ high. le-ltb k 5 (omega (arith, high))) refl refl
node_same (suc depth) (k ∷ rest) =
    let value_at : List ℕ → Read Node = node_at depth in
    let value : Format Node = format.node depth in
    let items : Format (List Node) = listed (λ _. true) (λ b. value) same true in
    let members : Format (List (List ℕ × Node)) = listed (λ _. true) (member value) name_behind [] in
    same_any (items_at value_at) (members_at value_at) items members (λ j. nat_lt j 7) rest k refl refl refl refl refl
    (λ high. le-ltb k 7 high)
    (same_array (items_at value_at) (members_at value_at) items members (λ j. nat_lt j 7) rest refl
    (items_same value_at value (node_same depth) rest))
    (same_object (items_at value_at) (members_at value_at) items members (λ j. nat_lt j 7) rest refl
    (members_same value_at value (node_same depth) rest))

-- ---- documents

uri_same : (bytes : List ℕ) → uri_at bytes ≡ (text.read bytes >>= kept is_uri (length bytes))
unfolding uri_at
uri_same bytes = rw (text_same bytes) refl

abbrev made_of : List ℕ × List ℕ → List (List ℕ) × List ℕ → Node × List ℕ → Read PlainDocument
made_of uri collections root =
    Ok (record { uri = uri.0; collections = collections.0; root = root.0 }, root.1)

abbrev as_document : (List ℕ × (List (List ℕ) × Node)) × List ℕ → Read PlainDocument
as_document y = Ok (document_of y.0, y.1)

abbrev first_two : {A B : Type 0} → A → B × List ℕ → Read (A × B)
first_two a y = Ok ((a, y.0), y.1)

root_same : (uri : List ℕ × List ℕ) (names : List (List ℕ) × List ℕ) (r : Read Node)
    → (r >>= made_of uri names) ≡ (((r >>= first_two names.0) >>= first_two uri.0) >>= as_document)
root_same uri names (Ok x) = refl
root_same uri names (Err error) = refl

abbrev inner : Format (List (List ℕ))
inner = listed (λ n. nat_le n 64) collection as_last []

names_same : (uri : List ℕ × List ℕ) (r : Read (List (List ℕ)))
    → (r >>= λ names. node_at 128 names.1 >>= made_of uri names)
    ≡ (((r >>= λ names. (format.node 128).read names.1 >>= first_two names.0) >>= first_two uri.0) >>= as_document)
names_same uri (Err error) = refl
names_same uri (Ok names) = rw (node_same 128 names.1) (root_same uri names ((format.node 128).read names.1))

fields_same : (r : Read (List ℕ))
    → (r >>= λ uri. collections_at uri.1 >>= λ names. node_at 128 names.1 >>= made_of uri names)
    ≡ ((r >>= λ uri. (inner.read uri.1 >>= λ names. (format.node 128).read names.1 >>= first_two names.0)
    >>= first_two uri.0) >>= as_document)
fields_same (Err error) = refl
fields_same (Ok uri) = rw (collections_same uri.1) (names_same uri (inner.read uri.1))

pub document_same : (bytes : List ℕ) → document_at bytes ≡ fields.read bytes
unfolding document_at fields
document_same bytes = rw (uri_same bytes) (fields_same (text.read bytes >>= kept is_uri (length bytes)))
