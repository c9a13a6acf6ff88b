-- A tree has no more nodes than its size.
use Rattle.std.proofs.Common.{ℕ, ◌+◌, ◌≤◌, List, [], ◌∷◌, map, length, sum, sum_by, subst₂, sym, arith}
use Rattle.std.proofs.lemmas.List.Sums.{sum_by-cons}
use Rattle.doc_model.specs.Tree.{size, size_step}
use Rattle.doc_model.specs.declared.node.Node.{map-Node, Node}
use Rattle.doc_model.specs.declared.node.Node.TheOpen.{Node-F}
use Rattle.doc_model.specs.declared.node.Node.TheFolds.{fold-roll-Node, ind-Node}
use Rattle.doc_model.specs.declared.node.Node.TheViews.{roll-Node}
use Rattle.cts_meaning.specs.Faults.{count_step, node_count}

abbrev IsBounded : Node → Type 0
IsBounded n = node_count n ≤ size n

abbrev Bounded : Type 0
Bounded = (n : Node) × IsBounded n

items_bounded : (ys : List Bounded) →
    sum (map node_count (map (λ e. e.0) ys)) ≤ sum (map size (map (λ e. e.0) ys))
items_bounded [] = omega arith
items_bounded (y ∷ ys) = omega (
  arith,
  sum_by-cons (λ (n : ℕ). n) (node_count y.0) (map node_count (map (λ (e : Bounded). e.0) ys)),
  sum_by-cons (λ (n : ℕ). n) (size y.0) (map size (map (λ (e : Bounded). e.0) ys)),
  y.1,
  items_bounded ys,
)

abbrev Member : Type 0
Member = List ℕ × Bounded

abbrev bare : Member → List ℕ × Node
bare m = (m.0, m.1.0)

abbrev counted : List ℕ × Node → List ℕ × ℕ
counted m = (m.0, node_count m.1)

abbrev sized : List ℕ × Node → List ℕ × ℕ
sized m = (m.0, size m.1)

members_bounded : (ms : List Member) → sum_by (λ m. m.1) (map counted (map bare ms))
    ≤ sum_by (λ m. length m.0 + m.1) (map sized (map bare ms))
members_bounded [] = omega arith
members_bounded (m ∷ ms) = omega (
  arith,
  sum_by-cons (λ (k : List ℕ × ℕ). k.1) (counted (bare m)) (map counted (map bare ms)),
  sum_by-cons (λ (k : List ℕ × ℕ). length k.0 + k.1) (sized (bare m)) (map sized (map bare ms)),
  m.1.1,
  members_bounded ms,
)

step_bounded : (y : Node-F Bounded) → IsBounded (roll-Node (map-Node Bounded Node (λ e. e.0) y))
step_bounded y =
    let z = map-Node Bounded Node (λ (e : Bounded). e.0) y in
    subst₂ (λ a b. a ≤ b) (sym (fold-roll-Node ℕ count_step z)) (sym (fold-roll-Node ℕ size_step z)) (go y)
  where
    go : (y : Node-F Bounded) →
        count_step (map-Node Node ℕ node_count (map-Node Bounded Node (λ e. e.0) y))
        ≤ size_step (map-Node Node ℕ size (map-Node Bounded Node (λ e. e.0) y))
    go Node-F.Null = omega arith
    go (Node-F.Bool b) = omega arith
    go (Node-F.Num units) = omega arith
    go (Node-F.Text text) = omega arith
    go (Node-F.Items ys) = omega (arith, items_bounded ys)
    go (Node-F.Members ms) = omega (arith, members_bounded ms)

pub node_bounded : (n : Node) → node_count n ≤ size n
node_bounded = ind-Node IsBounded (λ x y is. subst₂ (λ a b. IsBounded (roll-Node a)) is is (step_bounded y))
