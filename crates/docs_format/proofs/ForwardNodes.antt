-- Reading a node or a document goes forward.
use Rattle.std.proofs.Common.{ℕ, zero, suc, Bool, true, false, not, ◌==◌, ◌^◌, nat_lt, List, [], ◌∷◌, ◌++◌, length, Ok, Err}
use Rattle.std.proofs.Common.{refl, arith}
use Rattle.doc_model.specs.Documents.{PlainDocument, document_size}
use Rattle.doc_model.specs.Tree.{is_among}
use Rattle.doc_model.specs.declared.node.Node.{Node}
use Rattle.doc_model.specs.declared.node.Node.TheVariants as node
use Rattle.byte_formats.specs.declared.error.FieldError.TheVariants.{Truncated, Invalid}
use Rattle.byte_formats.specs.Format.{◌>>=◌, Read}
use Rattle.docs_format.specs.Reading.{collections_at, count_at, document_at, items_at, kind_at, list_at}
use Rattle.docs_format.specs.Reading.{member_at, members_at, name_at, names, node_at, node_of, number_at, text_at}
use Rattle.docs_format.specs.Reading.{sized_document_at, uri_at}
use Rattle.docs_format.proofs.Forward.{Forward, IsForward, chosen_forward, collections_forward, count_forward}
use Rattle.docs_format.proofs.Forward.{ends_early}
use Rattle.docs_format.proofs.Forward.{keeping_forward, list_forward, made_forward, number_forward, refuses}
use Rattle.docs_format.proofs.Forward.{text_forward}
use Rattle.docs_format.proofs.Forward.{then_forward, uri_forward, wider}

-- ---- nodes

module _ (more : List ℕ) (value_at : List ℕ → Read Node)
    (value_forward : (bytes : List ℕ) → IsForward more value_at bytes) where
  items_forward : (bytes : List ℕ) → IsForward more (items_at value_at) bytes
  unfolding items_at
  items_forward bytes =
      let made : List Node × List ℕ → Read Node = λ items. Ok (node.Items items.0, items.1) in
      then_forward more count_at (λ n. list_at (λ before. value_at) [] n.0 n.1 >>= made) bytes
      (count_forward more bytes)
      (λ n rest. then_forward more (list_at (λ before. value_at) [] n) made rest
      (list_forward more (λ before. value_at) (λ before. value_forward) n [] rest)
      (λ items behind. made_forward more node.Items items behind))

  member_forward : (before : List (List ℕ × Node)) (bytes : List ℕ) → IsForward more (member_at value_at before) bytes
  unfolding member_at name_at
  member_forward before bytes =
      let made : List ℕ × List ℕ → Node × List ℕ → Read (List ℕ × Node) =
      λ name value. Ok ((name.0, value.0), value.1) in
      let fresh : List ℕ → Bool = λ name. not (is_among (names before) name) in
      then_forward more (name_at (names before)) (λ name. value_at name.1 >>= made name) bytes
      (keeping_forward more fresh text_at bytes (text_forward more bytes))
      (λ name rest. then_forward more value_at (made (name, rest)) rest (value_forward rest)
      (λ value behind. made_forward more (λ (v : Node). (name, v)) value behind))

  members_forward : (bytes : List ℕ) → IsForward more (members_at value_at) bytes
  unfolding members_at
  members_forward bytes =
      let made : List (List ℕ × Node) × List ℕ → Read Node = λ members. Ok (node.Members members.0, members.1) in
      then_forward more count_at (λ n. list_at (member_at value_at) [] n.0 n.1 >>= made) bytes
      (count_forward more bytes)
      (λ n rest. then_forward more (list_at (member_at value_at) [] n) made rest
      (list_forward more (member_at value_at) member_forward n [] rest)
      (λ members behind. made_forward more node.Members members behind))

-- a node of a kind, given what an array and an object give
kind_forward : (array object long_array long_object : List ℕ → Read Node) (k : ℕ) (rest more : List ℕ)
    → Forward (suc (length rest)) more (array rest) (long_array (rest ++ more))
    → Forward (suc (length rest)) more (object rest) (long_object (rest ++ more))
    → Forward (suc (length rest)) more (node_of array object (k ∷ rest))
    (node_of long_array long_object (k ∷ (rest ++ more)))
unfolding node_of kind_at
kind_forward array object long_array long_object k rest more a o =
    let len : ℕ = suc (length rest) in
    let plain =
    λ (n : Node). wider (length rest) len more (let r : Read Node = Ok (n, rest) in r) (Ok (n, rest ++ more))
    (omega arith) (made_forward more (λ (m : Node). m) n rest) in
    let numbers : Forward len more (number_at rest >>= λ n. Ok (node.Num n.0, n.1))
    (number_at (rest ++ more) >>= λ n. Ok (node.Num n.0, n.1)) =
    wider (length rest) len more _ _ (omega arith)
    (then_forward more number_at (λ n. Ok (node.Num n.0, n.1)) rest (number_forward more rest)
    (λ n behind. made_forward more node.Num n behind)) in
    let texts : Forward len more (text_at rest >>= λ t. Ok (node.Text t.0, t.1))
    (text_at (rest ++ more) >>= λ t. Ok (node.Text t.0, t.1)) =
    wider (length rest) len more _ _ (omega arith)
    (then_forward more text_at (λ t. Ok (node.Text t.0, t.1)) rest (text_forward more rest)
    (λ t behind. made_forward more node.Text t behind)) in
    let unknown : Forward len more (let r : Read Node = Err (Invalid (length (k ∷ rest))) in r)
    (Err (Invalid (length (k ∷ (rest ++ more))))) =
    refuses (k ∷ rest) more (Err (Invalid (length (k ∷ rest)))) (Err (Invalid (length (k ∷ (rest ++ more))))) refl refl in
    chosen_forward (k == 0) len more _ _ _ _ (plain node.Null)
    (chosen_forward (k == 1) len more _ _ _ _ (plain (node.Bool false))
    (chosen_forward (k == 2) len more _ _ _ _ (plain (node.Bool true))
    (chosen_forward (k == 3) len more _ _ _ _ numbers
    (chosen_forward (k == 4) len more _ _ _ _ texts
    (chosen_forward (k == 5) len more _ _ _ _ a (chosen_forward (k == 6) len more _ _ _ _ o unknown))))))

node_forward : (depth : ℕ) (more bytes : List ℕ) → IsForward more (node_at depth) bytes
unfolding node_at node_of kind_at
node_forward zero more [] = ends_early 0 0 more (Err (Truncated 0)) (node_at zero more) refl (omega arith)
node_forward (suc depth) more [] = ends_early 0 0 more (Err (Truncated 0)) (node_at (suc depth) more) refl (omega arith)
node_forward zero more (k ∷ rest) =
    let out : List ℕ → List ℕ → Read Node = λ all r. Err (Invalid (length all)) in
    let long : List ℕ = k ∷ (rest ++ more) in
    let deep : Forward (suc (length rest)) more (out (k ∷ rest) rest) (out long (rest ++ more)) =
    refuses (k ∷ rest) more (Err (Invalid (length (k ∷ rest)))) (Err (Invalid (length long))) refl refl in
    kind_forward (out (k ∷ rest)) (out (k ∷ rest)) (out long) (out long) k rest more deep deep
node_forward (suc depth) more (k ∷ rest) =
    let array : List ℕ → Read Node = items_at (node_at depth) in
    let object : List ℕ → Read Node = members_at (node_at depth) in
    let all = node_forward depth more in
    kind_forward array object array object k rest more
    (wider (length rest) (suc (length rest)) more (array rest) (array (rest ++ more)) (omega arith)
    (items_forward more (node_at depth) all rest))
    (wider (length rest) (suc (length rest)) more (object rest) (object (rest ++ more)) (omega arith)
    (members_forward more (node_at depth) all rest))

-- ---- documents

pub document_forward : (more bytes : List ℕ) → IsForward more document_at bytes
unfolding document_at
document_forward more bytes =
    let made : List ℕ × List ℕ → List (List ℕ) × List ℕ → Node × List ℕ → Read PlainDocument =
    λ uri collections root. Ok (record { uri = uri.0; collections = collections.0; root = root.0 }, root.1) in
    then_forward more uri_at
    (λ uri. collections_at uri.1 >>= λ collections. node_at 128 collections.1 >>= made uri collections)
    bytes (uri_forward more bytes)
    (λ uri rest. then_forward more collections_at
    (λ collections. node_at 128 collections.1 >>= made (uri, rest) collections)
    rest (collections_forward more rest)
    (λ collections behind. then_forward more (node_at 128) (made (uri, rest) (collections, behind)) behind
    (node_forward 128 more behind)
    (λ root left. made_forward more
    (λ (r : Node). record { uri = uri; collections = collections; root = r }) root left)))

pub sized_forward : (more bytes : List ℕ) → IsForward more sized_document_at bytes
unfolding sized_document_at
sized_forward more bytes =
    keeping_forward more (λ d. not (nat_lt (2 ^ 24) (document_size d))) document_at bytes (document_forward more bytes)
