-- How many nodes there are in a node, and in its parts.
use Rattle.std.proofs.Common.{◌≡◌, ℕ, ℤ, ◌+◌, ◌≤◌, Bool, List, [], ◌∷◌, ◌++◌, map, sum_by, refl, sym, ap, ◌∙◌, arith}
use Rattle.std.proofs.lemmas.List.Sums.{sum-map, sum_by-append, sum_by-cons}
use Rattle.doc_model.specs.declared.node.Node.{Node}
use Rattle.doc_model.specs.declared.node.Node.TheVariants as node
use Rattle.doc_model.specs.declared.node.Node.TheOpen.{Node-F}
use Rattle.doc_model.specs.declared.node.Node.TheFolds.{fold-roll-Node}
use Rattle.json_text.specs.Grammar.{Member}
use Rattle.cts_meaning.specs.Faults.{count_step, node_count, number_behind}
use Rattle.cts_meaning.specs.Shapes.{ShapedNode, item_parts}
use Rattle.cts_meaning.specs.declared.shape.Shape.{Shape}
use Rattle.cts_meaning.proofs.Nodes.{Sort, sort}

-- ---- of a node

pub count_null : node_count node.Null ≡ 1
count_null = ap node_count (sym node.rolls-Null) ∙ fold-roll-Node ℕ count_step Node-F.Null

pub count_bool : (b : Bool) → node_count (node.Bool b) ≡ 1
count_bool b = ap node_count (sym (node.rolls-Bool b)) ∙ fold-roll-Node ℕ count_step (Node-F.Bool b)

pub count_number : (k : ℤ) → node_count (node.Num k) ≡ 1
count_number k = ap node_count (sym (node.rolls-Num k)) ∙ fold-roll-Node ℕ count_step (Node-F.Num k)

pub count_text : (text : List ℕ) → node_count (node.Text text) ≡ 1
count_text text = ap node_count (sym (node.rolls-Text text)) ∙ fold-roll-Node ℕ count_step (Node-F.Text text)

pub count_items : (items : List Node) → node_count (node.Items items) ≡ 1 + sum_by node_count items
count_items items = ap node_count (sym (node.rolls-Items items)) ∙ fold-roll-Node ℕ count_step (Node-F.Items items)
    ∙ ap (λ n. 1 + n) (sum-map node_count items)

-- the nodes in a member's value
abbrev pub member_count : Member → ℕ
member_count m = node_count m.1

abbrev counted : Member → List ℕ × ℕ
counted m = (m.0, node_count m.1)

sum_counted : (members : List Member) →
    sum_by (λ (m : List ℕ × ℕ). m.1) (map counted members) ≡ sum_by member_count members
sum_counted [] = refl
sum_counted (m ∷ ms) =
    sum_by-cons (λ (k : List ℕ × ℕ). k.1) (counted m) (map counted ms)
    ∙ ap (λ n. node_count m.1 + n) (sum_counted ms) ∙ sym (sum_by-cons member_count m ms)

pub count_members : (members : List Member) → node_count (node.Members members) ≡ 1 + sum_by member_count members
count_members members = ap node_count (sym (node.rolls-Members members))
    ∙ fold-roll-Node ℕ count_step (Node-F.Members members) ∙ ap (λ n. 1 + n) (sum_counted members)

some_by : (n : Node) → Sort n → 1 ≤ node_count n
some_by n (Sort.is_null is) = omega (arith, ap node_count is, count_null)
some_by n (Sort.is_bool b is) = omega (arith, ap node_count is, count_bool b)
some_by n (Sort.is_number k is) = omega (arith, ap node_count is, count_number k)
some_by n (Sort.is_text text is) = omega (arith, ap node_count is, count_text text)
some_by n (Sort.is_array items is) = omega (arith, ap node_count is, count_items items)
some_by n (Sort.is_object members is) = omega (arith, ap node_count is, count_members members)

-- a node is one of its nodes
pub count_some : (n : Node) → 1 ≤ node_count n
count_some n = some_by n (sort n)

-- ---- of parts

abbrev pub part_count : ShapedNode → ℕ
part_count part = node_count part.1

pub behind_append : (before behind : List ShapedNode) (part : ShapedNode) →
    number_behind (before ++ part ∷ behind) ≡ number_behind before + (node_count part.1 + sum_by part_count behind)
behind_append before behind part =
    let all = sum_by-append part_count before (part ∷ behind) in
    let one = sum_by-cons part_count part behind in
    omega (arith, all, one)

pub behind_cons : (part : ShapedNode) (parts : List ShapedNode) →
    number_behind (part ∷ parts) ≡ node_count part.1 + number_behind parts
behind_cons part parts = omega (arith, sum_by-cons part_count part parts)

pub sum_items : (item : Shape) (items : List Node) → sum_by part_count (item_parts item items) ≡ sum_by node_count items
sum_items item [] = refl
sum_items item (i ∷ items) =
    sum_by-cons part_count (item, i) (item_parts item items)
    ∙ ap (λ n. node_count i + n) (sum_items item items) ∙ sym (sum_by-cons node_count i items)
