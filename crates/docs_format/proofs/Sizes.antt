-- How large and how deep an array or object is, and whether its names are distinct, from its content.
use Rattle.std.proofs.Common.{◌≡◌, ℕ, Bool, true, ◌+◌, ◌&&◌, List, [], ◌∷◌, map, length, sum, sum_by, refl, sym, ap}
use Rattle.std.proofs.Common.{◌∙◌}
use Rattle.std.specs.List.{list_all}
use Rattle.std.proofs.lemmas.List.Folds.{list_all-map}
use Rattle.std.proofs.lemmas.List.Sums.{sum_by-cons}
use Rattle.doc_model.specs.declared.node.Node.{Node, map-Node}
use Rattle.doc_model.specs.declared.node.Node.TheVariants as node
use Rattle.doc_model.specs.declared.node.Node.TheOpen.{Node-F}
use Rattle.doc_model.specs.declared.node.Node.TheFolds.{fold-roll-Node}
use Rattle.doc_model.specs.declared.node.Node.TheViews.{roll-Node}
use Rattle.doc_model.specs.Tree.{size, size_step, depth, depth_step, greatest, has_distinct_names, names_step}
use Rattle.doc_model.specs.Tree.{is_distinct}
use Rattle.docs_format.specs.Reading.{names}

sum-map : {X : Type 0} (f : X → ℕ) (xs : List X) → sum (map f xs) ≡ sum_by f xs
sum-map f [] = refl
sum-map f (x ∷ xs) =
    sum_by-cons (λ n. n) (f x) (map f xs) ∙ ap (λ n. f x + n) (sum-map f xs) ∙ sym (sum_by-cons f x xs)

sum_by-map : {X Y : Type 0} (g : Y → ℕ) (f : X → Y) (xs : List X) → sum_by g (map f xs) ≡ sum_by (λ x. g (f x)) xs
sum_by-map g f [] = refl
sum_by-map g f (x ∷ xs) =
    sum_by-cons g (f x) (map f xs)
    ∙ ap (λ n. g (f x) + n) (sum_by-map g f xs)
    ∙ sym (sum_by-cons (λ y. g (f y)) x xs)

map-map : {A B C : Type 0} (f : B → C) (g : A → B) (xs : List A) → map f (map g xs) ≡ map (λ x. f (g x)) xs
map-map f g [] = refl
map-map f g (x ∷ xs) = ap (λ rest. f (g x) ∷ rest) (map-map f g xs)

-- ---- scalars

-- a node without nodes in it
pub flat : (n : Node) (z : Node-F Node) → roll-Node z ≡ n
    → depth_step (map-Node Node ℕ depth z) ≡ 0 → names_step (map-Node Node Bool has_distinct_names z) ≡ true
    → (depth n ≡ 0) × (has_distinct_names n ≡ true)
flat n z is d q = (
  ap depth (sym is) ∙ fold-roll-Node ℕ depth_step z ∙ d,
  ap has_distinct_names (sym is) ∙ fold-roll-Node Bool names_step z ∙ q,
)

pub size_text : (t : List ℕ) → size (node.Text t) ≡ 1 + length t
size_text t = ap size (sym (node.rolls-Text t)) ∙ fold-roll-Node ℕ size_step (Node-F.Text t)

-- ---- arrays

pub size_items : (list : List Node) → size (node.Items list) ≡ 1 + sum_by size list
size_items list =
    ap size (sym (node.rolls-Items list))
    ∙ fold-roll-Node ℕ size_step (Node-F.Items list)
    ∙ ap (λ n. 1 + n) (sum-map size list)

pub depth_items : (list : List Node) → depth (node.Items list) ≡ 1 + greatest (map depth list)
depth_items list = ap depth (sym (node.rolls-Items list)) ∙ fold-roll-Node ℕ depth_step (Node-F.Items list)

pub names_items : (list : List Node) → has_distinct_names (node.Items list) ≡ list_all has_distinct_names list
names_items list =
    ap has_distinct_names (sym (node.rolls-Items list))
    ∙ fold-roll-Node Bool names_step (Node-F.Items list)
    ∙ list_all-map (λ item. item) has_distinct_names list

-- ---- objects

pub size_members : (list : List (List ℕ × Node))
    → size (node.Members list) ≡ 1 + sum_by (λ m. length m.0 + size m.1) list
size_members list =
    let sized : List ℕ × Node → List ℕ × ℕ = λ m. (m.0, size m.1) in
    ap size (sym (node.rolls-Members list))
    ∙ fold-roll-Node ℕ size_step (Node-F.Members list)
    ∙ ap (λ n. 1 + n) (sum_by-map (λ (m : List ℕ × ℕ). length m.0 + m.1) sized list)

pub depth_members : (list : List (List ℕ × Node))
    → depth (node.Members list) ≡ 1 + greatest (map (λ m. depth m.1) list)
depth_members list =
    let deep : List ℕ × Node → List ℕ × ℕ = λ m. (m.0, depth m.1) in
    ap depth (sym (node.rolls-Members list))
    ∙ fold-roll-Node ℕ depth_step (Node-F.Members list)
    ∙ ap (λ ds. 1 + greatest ds) (map-map (λ (m : List ℕ × ℕ). m.1) deep list)

pub names_members : (list : List (List ℕ × Node))
    → has_distinct_names (node.Members list) ≡ (is_distinct (names list) && list_all (λ m. has_distinct_names m.1) list)
names_members list =
    let distinct : List ℕ × Node → List ℕ × Bool = λ m. (m.0, has_distinct_names m.1) in
    ap has_distinct_names (sym (node.rolls-Members list))
    ∙ fold-roll-Node Bool names_step (Node-F.Members list)
    ∙ ap (λ ns. is_distinct ns && list_all (λ (m : List ℕ × Bool). m.1) (map distinct list))
    (map-map (λ (m : List ℕ × Bool). m.0) distinct list)
    ∙ ap (λ b. is_distinct (names list) && b) (list_all-map (λ (m : List ℕ × Bool). m.1) distinct list)
