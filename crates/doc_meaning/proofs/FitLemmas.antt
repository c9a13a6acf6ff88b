-- A tree has fewer words than its size.
use Rattle.std.proofs.Common.{◌≡◌, ℕ, zero, suc, ◌+◌, ◌*◌, ◌-◌, ◌≤◌, ◌<◌, ◌^◌, ◌++◌, All, IsTrue, is_none, nat_lt}
use Rattle.std.proofs.Common.{Bool, true, false, cond, eqb, List, [], ◌∷◌, map, flat_map, length, sum, sum_by, Option}
use Rattle.std.proofs.Common.{None, Some, refl, sym, ap, ◌∙◌, subst, arith, chars}
use Rattle.std.proofs.lemmas.List.{length-map}
use Rattle.std.specs.Str.{chars, chars_after, continuation_len, lead_bits}
use Rattle.std.specs.Char.{len_utf8}
use Rattle.doc_model.specs.Documents.{PlainDocument, IsDocument, document_size}
use Rattle.doc_model.specs.Tree.{size, size_step}
use Rattle.doc_model.specs.declared.refusal.DocRefusal.{DocRefusal}
use Rattle.doc_model.specs.declared.refusal.DocRefusal.TheVariants as rule
use Rattle.doc_model.specs.declared.node.Node.{Node, map-Node}
use Rattle.doc_model.specs.declared.node.Node.TheOpen.{Node-F}
use Rattle.doc_model.specs.declared.node.Node.TheViews.{roll-Node}
use Rattle.doc_model.specs.declared.node.Node.TheFolds.{fold-roll-Node, ind-Node}
use Rattle.doc_meaning.specs.Words.{is_word_char, joined, spans, words, plain}
use Rattle.doc_meaning.specs.declared.string_node.StringNode.{StringNode}
use Rattle.doc_meaning.specs.Strings.{Property, scalars, scalars_step, scalars_under, strings, text_of, with_positions}
use Rattle.doc_model.specs.declared.scalar.Scalar.{Scalar}
use Rattle.std.specs.List.{filter_map}
use Rattle.std.proofs.lemmas.Bool.Decides.{nat_tests}
use Rattle.std.proofs.lemmas.List.Elements.{filter_map-append, All-nil, All-cons}
use Rattle.std.proofs.lemmas.List.Sums.{sum_by-cons, sum_by-append}

length-chars_after : (n c : ℕ) (bs : List ℕ) → length (chars_after n c bs) ≤ length bs + 1
length-chars_after zero c [] = omega arith
length-chars_after zero c (b ∷ bs) = omega (arith, length-chars_after (continuation_len b) (lead_bits b) bs)
length-chars_after (suc n) c [] = omega arith
length-chars_after (suc n) c (b ∷ bs) = omega (arith, length-chars_after n (c * 64 + (b - 128)) bs)

length-chars : (bs : List ℕ) → length (chars bs) ≤ length bs
unfolding chars
length-chars [] = omega arith
length-chars (b ∷ bs) = omega (arith, length-chars_after (continuation_len b) (lead_bits b) bs)

length-joined : (from to : ℕ) (rest : List (ℕ × ℕ)) → length (joined from to rest) ≤ length rest + 1
length-joined from to [] = omega arith
length-joined from to (span ∷ rest) =
    let more : Bool → List (ℕ × ℕ) = λ b. cond b ((from, span.1) ∷ rest) ((from, to) ∷ span ∷ rest) in
    elim (eqb to span.0) as (λ b. length (more b) ≤ length (span ∷ rest) + 1) [
      | true ↦ omega arith
      | false ↦ omega arith
    ]

length-spans : (cs : List ℕ) (at : ℕ) → length (spans at cs) ≤ length cs
length-spans [] at = omega arith
length-spans (c ∷ cs) at =
    let next = at + len_utf8 c in
    let more : Bool → List (ℕ × ℕ) = λ b. cond b (joined at next (spans next cs)) (spans next cs) in
    elim (is_word_char c) as (λ b. length (more b) ≤ length (c ∷ cs)) [
      | true ↦ omega (arith, length-joined at next (spans next cs), length-spans cs next)
      | false ↦ omega (arith, length-spans cs next)
    ]

pub length-plain : (text : List ℕ) → length (plain text) ≤ length text
unfolding plain words
length-plain text =
    let as_many = length-map (words text) (λ span. Rattle.std.specs.Prelude.slice_range text span.0 span.1) in
    omega (arith, as_many, length-spans (chars text) 0, length-chars text)

-- the texts of a node
abbrev strings_under : Node → Property → List (Property × List ℕ)
strings_under n property = filter_map text_of (scalars_under n property)

-- how many words the texts of a tree have
abbrev pub word_count : List (Property × List ℕ) → ℕ
word_count = sum_by (λ s. length (plain s.1))

abbrev Fits : Node → Type 0
Fits n = (property : Property) → word_count (strings_under n property) < size n

abbrev Fitting : Type 0
Fitting = (n : Node) × Fits n

strings_roll : (z : Node-F Node) (property : Property) →
    strings_under (roll-Node z) property
    ≡ filter_map text_of (scalars_step (map-Node Node (Property → List (Property × Scalar)) scalars_under z) property)
strings_roll z property =
    ap (λ f. filter_map text_of (f property)) (fold-roll-Node (Property → List (Property × Scalar)) scalars_step z)

size_roll : (z : Node-F Node) → size (roll-Node z) ≡ size_step (map-Node Node ℕ size z)
size_roll = fold-roll-Node ℕ size_step

word_count-append : (xs ys : List (Property × Scalar)) →
    word_count (filter_map text_of (xs ++ ys))
    ≡ word_count (filter_map text_of xs) + word_count (filter_map text_of ys)
word_count-append xs ys = ap word_count (filter_map-append text_of xs ys)
    ∙ sum_by-append (λ s. length (plain s.1)) (filter_map text_of xs) (filter_map text_of ys)

together : (xs ys : List (Property × Scalar)) (m n : ℕ) →
    word_count (filter_map text_of xs) ≤ m → word_count (filter_map text_of ys) ≤ n →
    word_count (filter_map text_of (xs ++ ys)) ≤ m + n
together xs ys m n p q = omega (arith, word_count-append xs ys)

items_fit : (ys : List Fitting) (property : Property) →
    word_count (filter_map text_of (flat_map (λ f. f property) (map scalars_under (map (λ e. e.0) ys))))
    ≤ sum (map size (map (λ e. e.0) ys))
items_fit [] property = omega arith
items_fit (e ∷ ys) property =
    let rest : List (Property × Scalar) = flat_map (λ f. f property) (map scalars_under (map (λ d. d.0) ys)) in
    let sizes : ℕ = sum (map size (map (λ d. d.0) ys)) in
    subst (λ total. word_count (filter_map text_of (scalars_under e.0 property ++ rest)) ≤ total)
    (sym (sum_by-cons (λ n. n) (size e.0) (map size (map (λ d. d.0) ys))))
    (together (scalars_under e.0 property) rest (size e.0) sizes (omega (arith, e.1 property)) (items_fit ys property))

-- the nodes of members, their scalars and their sizes, each under the member's name
abbrev nodes_named : List (List ℕ × Fitting) → List (List ℕ × Node)
nodes_named ms = map (λ m. (m.0, m.1.0)) ms

abbrev scalars_named : List (List ℕ × Node) → List (List ℕ × (Property → List (Property × Scalar)))
scalars_named ns = map (λ n. (n.0, scalars_under n.1)) ns

abbrev sizes_named : List (List ℕ × Node) → List (List ℕ × ℕ)
sizes_named ns = map (λ n. (n.0, size n.1)) ns

members_fit : (ms : List (List ℕ × Fitting)) →
    word_count (filter_map text_of (flat_map (λ m. m.1 (Some m.0)) (scalars_named (nodes_named ms))))
    ≤ sum_by (λ m. length m.0 + m.1) (sizes_named (nodes_named ms))
members_fit [] = omega arith
members_fit (m ∷ ms) =
    let rest : List (Property × Scalar) = flat_map (λ k. k.1 (Some k.0)) (scalars_named (nodes_named ms)) in
    let sizes : ℕ = sum_by (λ k. length k.0 + k.1) (sizes_named (nodes_named ms)) in
    subst (λ total. word_count (filter_map text_of (scalars_under m.1.0 (Some m.0) ++ rest)) ≤ total)
    (sym (sum_by-cons (λ k. length k.0 + k.1) (m.0, size m.1.0) (sizes_named (nodes_named ms))))
    (together (scalars_under m.1.0 (Some m.0)) rest (length m.0 + size m.1.0) sizes
    (omega (arith, m.1.1 (Some m.0))) (members_fit ms))

step : (y : Node-F Fitting) → Fits (roll-Node (map-Node Fitting Node (λ e. e.0) y))
step y property = rw (strings_roll, size_roll) (go y)
  where
    inner : Node-F Fitting → Node-F Node
    inner = map-Node Fitting Node (λ e. e.0)

    under : Node-F Fitting → Node-F (Property → List (Property × Scalar))
    under y = map-Node Node (Property → List (Property × Scalar)) scalars_under (inner y)

    go : (y : Node-F Fitting) →
        word_count (filter_map text_of (scalars_step (under y) property)) < size_step (map-Node Node ℕ size (inner y))
    go Node-F.Null = omega arith
    go (Node-F.Bool b) = omega arith
    go (Node-F.Num n) = omega arith
    go (Node-F.Text t) = omega (arith, length-plain t)
    go (Node-F.Items ys) = omega (arith, items_fit ys property)
    go (Node-F.Members ms) = omega (arith, members_fit ms)

pub words_fit : (n : Node) → Fits n
words_fit = ind-Node Fits (λ x y is. subst (λ z. Fits (roll-Node z)) is (step y))

pub texts_fit : (n : Node) → size n < 2 ^ 64 →
    sum_by (λ s. length (plain s.1)) (filter_map text_of (scalars n)) < 2 ^ 64
texts_fit n lt = omega (arith, words_fit n None, lt)

-- the words of a string are numbered below 2^64
abbrev pub IsNumbered : StringNode → Type 0
IsNumbered s = s.first_position + length (plain s.text) < 2 ^ 64

positions_fit : (base : ℕ) (ss : List (Property × List ℕ)) → base + word_count ss < 2 ^ 64 →
    All IsNumbered (with_positions base ss)
positions_fit base [] lt = All-nil IsNumbered
positions_fit base (s ∷ ss) lt =
    All-cons IsNumbered _ _ (omega (arith, lt, sum_by-cons (λ s. length (plain s.1)) s ss))
    (positions_fit (base + length (plain s.1)) ss (omega (arith, lt, sum_by-cons (λ s. length (plain s.1)) s ss)))

pub strings_numbered : (n : Node) → size n < 2 ^ 64 → All IsNumbered (strings n)
strings_numbered n lt = positions_fit 0 (filter_map text_of (scalars n)) (omega (arith, texts_fit n lt))

-- the first rule that is broken, of five
abbrev first_rule : Bool → Bool → Bool → Bool → Bool → Option DocRefusal
first_rule a b c e f =
    cond a (Some rule.Uri) (cond b (Some rule.Collections) (cond c (Some rule.Depth)
    (cond e (Some rule.Names) (cond f (Some rule.Size) None))))

-- no rule is broken, so the last one isn't
last_rule : (a b c e f : Bool) → IsTrue (is_none (first_rule a b c e f)) → f ≡ false
last_rule false false false false false h = refl
last_rule false false false false true h = sym h
last_rule false false false true f h = cc
last_rule false false true e f h = cc
last_rule false true c e f h = cc
last_rule true b c e f h = cc

pub document_fits : (d : PlainDocument) → IsDocument d → size d.root < 2 ^ 64
document_fits d h =
    let small : nat_lt (2 ^ 24) (document_size d) ≡ false = last_rule _ _ _ _ _ h in
    grind (arith, nat_tests, small)
