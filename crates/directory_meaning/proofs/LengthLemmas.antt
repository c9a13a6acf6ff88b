-- How long the bytes of an entry are at most.
use Rattle.std.proofs.Common.{◌≡◌, ℕ, ℤ, Bool, true, false, ◌+◌, ◌*◌, ◌^◌, ◌≤◌, not, cond, List, [], ◌∷◌, ◌++◌, map, length, sum, sum_by, Option, Some, None, is_none, refl, sym, ap, subst₂, arith, length-append}
use Rattle.std.specs.Int.{w128, cast_unsigned}
use Rattle.std.specs.List.{flat_map, list_all}
use Rattle.std.proofs.lemmas.Bool.{and_parts, leb-true}
use Rattle.std.proofs.lemmas.List.Sums.{sum_by-cons}
use Rattle.byteorder.specs.Numbers.{length-bytes_high_first}
use Rattle.doc_model.specs.Documents.{PlainDocument, broken_rule, document_size}
use Rattle.doc_model.specs.Operations.{op_size, removes_uri}
use Rattle.doc_model.specs.Tree.{size, size_step}
use Rattle.doc_model.specs.Uri.{is_collections, is_name, is_uri}
use Rattle.doc_model.specs.declared.entry.Entry.TheVariants.{Commit, Forget}
use Rattle.doc_model.specs.declared.node.Node.{Node, map-Node}
use Rattle.doc_model.specs.declared.node.Node.TheOpen.{Node-F}
use Rattle.doc_model.specs.declared.node.Node.TheFolds.{fold-roll-Node, ind-Node}
use Rattle.doc_model.specs.declared.node.Node.TheViews.{roll-Node}
use Rattle.doc_model.specs.declared.op.Op.{Op}
use Rattle.doc_model.specs.declared.op.Op.TheVariants.{Put, Remove}
use Rattle.doc_model.specs.declared.refusal.DocRefusal.{DocRefusal}
use Rattle.docs_format.specs.Spelling.{are_values, count, document, node, node_step, number, text, texts}
use Rattle.journal_bodies.specs.Entries.{HasValues, entry, expect, has_values, op}
use Rattle.journal_bodies.specs.Roots.{listed, long}
use Rattle.journal_bodies.proofs.OpLists.{is_commit}
use Rattle.journal_bodies.proofs.Truths.{from_true}
use Rattle.directory_meaning.specs.Laws.{FramesAreShort}

pub length-count : (n : ℕ) → length (count n) ≡ 4
unfolding count
length-count n = length-bytes_high_first 4 n

pub length-long : (n : ℕ) → length (long n) ≡ 8
unfolding long
length-long n = length-bytes_high_first 8 n

length-number : (units : ℤ) → length (number units) ≡ 16
unfolding number
length-number units = length-bytes_high_first 16 (cast_unsigned w128 units)

pub length-text : (t : List ℕ) → length (text t) ≡ 4 + length t
length-text t = omega (arith, length-append (count (length t)) t, length-count (length t))

pub length-listed : {X : Type 0} (spelling : X → List ℕ) (list : List X) →
    length (listed spelling list) ≡ 4 + length (flat_map spelling list)
length-listed spelling list =
    omega (arith, length-append (count (length list)) (flat_map spelling list), length-count (length list))

-- a node has at most 21 bytes for each of its size, and 4 less
abbrev IsShort : Node → Type 0
IsShort n = length (node n) + 4 ≤ 21 * size n

abbrev Short : Type 0
Short = (n : Node) × IsShort n

items_short : (ys : List Short) →
    length (flat_map (λ bytes. bytes) (map node (map (λ e. e.0) ys))) ≤ 21 * sum (map size (map (λ e. e.0) ys))
items_short [] = omega arith
items_short (y ∷ ys) = omega (
  arith,
  sum_by-cons (λ n. n) (size y.0) (map size (map (λ (e : Short). e.0) ys)),
  length-append (node y.0) (flat_map (λ bytes. bytes) (map node (map (λ (e : Short). e.0) ys))),
  y.1,
  items_short ys,
)

abbrev Member : Type 0
Member = List ℕ × Short

abbrev bare : Member → List ℕ × Node
bare m = (m.0, m.1.0)

abbrev spelled : List ℕ × Node → List ℕ × List ℕ
spelled m = (m.0, node m.1)

abbrev sized : List ℕ × Node → List ℕ × ℕ
sized m = (m.0, size m.1)

members_short : (ms : List Member) → length (flat_map (λ m. text m.0 ++ m.1) (map spelled (map bare ms)))
    ≤ 21 * sum_by (λ m. length m.0 + m.1) (map sized (map bare ms))
members_short [] = omega arith
members_short (m ∷ ms) = omega (
  arith,
  sum_by-cons (λ (m : List ℕ × ℕ). length m.0 + m.1) (sized (bare m)) (map sized (map bare ms)),
  length-append (text m.0 ++ node m.1.0)
      (flat_map (λ (m : List ℕ × List ℕ). text m.0 ++ m.1) (map spelled (map bare ms))),
  length-append (text m.0) (node m.1.0),
  length-text m.0,
  m.1.1,
  members_short ms,
)

step_short : (y : Node-F Short) → IsShort (roll-Node (map-Node Short Node (λ e. e.0) y))
step_short y =
    let z = map-Node Short Node (λ (e : Short). e.0) y in
    subst₂ (λ bytes n. length bytes + 4 ≤ 21 * n) (sym (fold-roll-Node (List ℕ) node_step z))
    (sym (fold-roll-Node ℕ size_step z)) (go y)
  where
    go : (y : Node-F Short) →
        length (node_step (map-Node Node (List ℕ) node (map-Node Short Node (λ e. e.0) y))) + 4
        ≤ 21 * size_step (map-Node Node ℕ size (map-Node Short Node (λ e. e.0) y))
    go Node-F.Null = omega arith
    go (Node-F.Bool b) = omega arith
    go (Node-F.Num units) = omega (arith, length-number units)
    go (Node-F.Text t) = omega (arith, length-text t)
    go (Node-F.Items ys) =
        omega (arith, length-listed (λ bytes. bytes) (map node (map (λ (e : Short). e.0) ys)), items_short ys)
    go (Node-F.Members ms) = omega (
      arith,
      length-listed (λ (m : List ℕ × List ℕ). text m.0 ++ m.1) (map spelled (map bare ms)),
      members_short ms,
    )

node_short : (n : Node) → IsShort n
node_short = ind-Node IsShort (λ x y is. subst₂ (λ a b. IsShort (roll-Node a)) is is (step_short y))

-- ---- documents

texts_short : (names : List (List ℕ)) → list_all is_name names ≡ true →
    length (flat_map text names) ≤ 21 * sum_by length names
texts_short [] all = omega arith
texts_short (name ∷ names) all =
    let parts = and_parts (is_name name) (list_all is_name names) all in
    let some : 1 ≤ length name = leb-true 1 (length name) (and_parts _ _ parts.0).0 in
    omega (
      arith,
      sum_by-cons length name names,
      length-append (text name) (flat_map text names),
      length-text name,
      some,
      texts_short names parts.1,
    )

document_short : (d : PlainDocument) → is_collections d.collections ≡ true →
    length (document d) ≤ 21 * document_size d + 4
document_short d kept = omega (
  arith,
  length-append (text d.uri ++ texts d.collections) (node d.root),
  length-append (text d.uri) (texts d.collections),
  length-text d.uri,
  length-listed text d.collections,
  texts_short d.collections (and_parts _ _ (and_parts _ _ kept).0).1,
  node_short d.root,
)

holds : (b : Bool) (r : DocRefusal) (o : Option DocRefusal) → is_none (cond (not b) (Some r) o) ≡ true →
    (b ≡ true) × (is_none o ≡ true)
holds true r o h = (refl, h)
holds false r o h = absurd (cc)

-- ---- operations

expect_short : (e : Option ℕ) → length (expect e) ≤ 9
expect_short None = omega arith
expect_short (Some stamp) = omega (arith, length-long stamp)

uri_short : (uri : List ℕ) → is_uri uri ≡ true → length uri ≤ 1024
uri_short uri is = leb-true (length uri) 1024 (and_parts _ _ (and_parts _ _ is).0).1

op_short : (o : Op) → has_values o ≡ true → removes_uri o ≡ true → length (op o) ≤ 21 * op_size o + 1038
op_short (Put d e) values removes =
    let rule : is_none (broken_rule d) ≡ true = (and_parts (is_none (broken_rule d)) (are_values d) values).0 in
    let names = (holds (is_collections d.collections) _ _ (holds (is_uri d.uri) _ _ rule).1).0 in
    omega (arith, length-append (expect e) (document d), expect_short e, document_short d names)
op_short (Remove uri e) values removes =
    omega (arith, length-append (expect e) (text uri), expect_short e, length-text uri, uri_short uri removes)

ops_short : (ops : List Op) → list_all has_values ops ≡ true → list_all removes_uri ops ≡ true →
    length (flat_map op ops) ≤ 21 * sum_by op_size ops + 1038 * length ops
ops_short [] values removes = omega arith
ops_short (o ∷ ops) values removes =
    let these = and_parts (has_values o) (list_all has_values ops) values in
    let those = and_parts (removes_uri o) (list_all removes_uri ops) removes in
    omega (
      arith,
      sum_by-cons op_size o ops,
      length-append (op o) (flat_map op ops),
      op_short o these.0 those.0,
      ops_short ops these.1 those.1,
    )

-- a commit has as many bytes under each number
pub commit_length : (number : ℕ) (ops : List Op) → length (entry number (Commit ops)) ≡ 9 + length (listed op ops)
commit_length number ops = omega (arith, length-append (long number) (listed op ops), length-long number)

-- whatever its operations expect
pub commit_is_short : (number : ℕ) (ops : List Op) → HasValues (Commit ops) →
    length (entry number (Commit ops)) + 10 ≤ 2 ^ 31
commit_is_short number ops kept =
    let commit = is_commit ops kept.0.rules in
    let values = from_true (list_all has_values ops) kept.1 in
    let removes = from_true (list_all removes_uri ops) kept.0.uris in
    omega (
      arith,
      commit_length number ops,
      length-listed op ops,
      ops_short ops values removes,
      commit.few,
      commit.small,
    )

pub frames_are_short : FramesAreShort
frames_are_short body number (Commit ops) spells =
    omega (arith, ap length spells.spelled, commit_is_short number ops spells.values)
frames_are_short body number (Forget stamp) spells = omega (
  arith,
  ap length spells.spelled,
  length-append (long number) (long stamp),
  length-long number,
  length-long stamp,
)
