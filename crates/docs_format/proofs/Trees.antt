-- What a tree says, from its content.
use Rattle.std.proofs.Common.{◌≡◌, ℕ, ℤ, Bool, true, cond, ◌+◌, ◌^◌, ◌<◌, ◌≤◌, ◌&&◌, get_or, List, [], ◌∷◌, ◌++◌}
use Rattle.std.proofs.Common.{map, length, sum_by, refl, sym, ap, subst, ◌∙◌, arith}
use Rattle.std.specs.List.{flat_map, list_all}
use Rattle.std.specs.Str.{is_utf8}
use Rattle.std.proofs.lemmas.List.{length-map}
use Rattle.std.proofs.lemmas.List.Folds.{list_all-map}
use Rattle.doc_model.specs.declared.node.Node.{Node, map-Node}
use Rattle.doc_model.specs.declared.node.Node.TheVariants as node
use Rattle.doc_model.specs.declared.node.Node.TheOpen.{Node-F}
use Rattle.doc_model.specs.declared.node.Node.TheFolds.{fold-roll-Node, ind-Node}
use Rattle.doc_model.specs.declared.node.Node.TheViews.{roll-Node}
use Rattle.std.proofs.lemmas.List.Sums.{get_or-le-sum_by, sum_by-cons}
use Rattle.doc_model.specs.Tree.{size, size_step}
use Rattle.docs_format.specs.Spelling as spell

flat_map-map : {A B C : Type 0} (f : B → List C) (g : A → B) (xs : List A)
    → flat_map f (map g xs) ≡ flat_map (λ x. f (g x)) xs
flat_map-map f g [] = refl
flat_map-map f g (x ∷ xs) = ap (λ rest. f (g x) ++ rest) (flat_map-map f g xs)

pub spell_items : (list : List Node) → spell.node (node.Items list) ≡ 5 ∷ spell.items list
spell_items list =
    ap spell.node (sym (node.rolls-Items list)) ∙ fold-roll-Node (List ℕ) spell.node_step (Node-F.Items list)
    ∙ ap (λ n. 5 ∷ spell.count n ++ flat_map (λ item. item) (map spell.node list)) (length-map list spell.node)
    ∙ ap (λ rest. 5 ∷ spell.count (length list) ++ rest) (flat_map-map (λ item. item) spell.node list)

abbrev spelled : List ℕ × Node → List ℕ × List ℕ
spelled m = (m.0, spell.node m.1)

pub spell_members : (list : List (List ℕ × Node)) → spell.node (node.Members list) ≡ 6 ∷ spell.members list
spell_members list =
    ap spell.node (sym (node.rolls-Members list)) ∙ fold-roll-Node (List ℕ) spell.node_step (Node-F.Members list)
    ∙ ap (λ n. 6 ∷ spell.count n ++ flat_map (λ (m : List ℕ × List ℕ). spell.text m.0 ++ m.1) (map spelled list))
    (length-map list spelled)
    ∙ ap (λ rest. 6 ∷ spell.count (length list) ++ rest)
    (flat_map-map (λ (m : List ℕ × List ℕ). spell.text m.0 ++ m.1) spelled list)

pub values_items : (list : List Node) → spell.has_values (node.Items list) ≡ list_all spell.has_values list
values_items list =
    ap spell.has_values (sym (node.rolls-Items list)) ∙ fold-roll-Node Bool spell.values_step (Node-F.Items list)
    ∙ list_all-map (λ item. item) spell.has_values list

abbrev valued : List ℕ × Node → List ℕ × Bool
valued m = (m.0, spell.has_values m.1)

pub values_members : (list : List (List ℕ × Node))
    → spell.has_values (node.Members list) ≡ list_all (λ m. is_utf8 m.0 && spell.has_values m.1) list
values_members list =
    ap spell.has_values (sym (node.rolls-Members list)) ∙ fold-roll-Node Bool spell.values_step (Node-F.Members list)
    ∙ list_all-map (λ (m : List ℕ × Bool). is_utf8 m.0 && m.1) valued list

pub spell_null : spell.node node.Null ≡ 0 ∷ []
spell_null = ap spell.node (sym node.rolls-Null) ∙ fold-roll-Node (List ℕ) spell.node_step Node-F.Null

pub spell_bool : (b : Bool) → spell.node (node.Bool b) ≡ cond b 2 1 ∷ []
spell_bool b = ap spell.node (sym (node.rolls-Bool b)) ∙ fold-roll-Node (List ℕ) spell.node_step (Node-F.Bool b)

pub spell_number : (units : ℤ) → spell.node (node.Num units) ≡ 3 ∷ spell.number units
spell_number units =
    ap spell.node (sym (node.rolls-Num units)) ∙ fold-roll-Node (List ℕ) spell.node_step (Node-F.Num units)

pub spell_text : (t : List ℕ) → spell.node (node.Text t) ≡ 4 ∷ spell.text t
spell_text t = ap spell.node (sym (node.rolls-Text t)) ∙ fold-roll-Node (List ℕ) spell.node_step (Node-F.Text t)

pub values_null : spell.has_values node.Null ≡ true
values_null = ap spell.has_values (sym node.rolls-Null) ∙ fold-roll-Node Bool spell.values_step Node-F.Null

pub values_bool : (b : Bool) → spell.has_values (node.Bool b) ≡ true
values_bool b = ap spell.has_values (sym (node.rolls-Bool b)) ∙ fold-roll-Node Bool spell.values_step (Node-F.Bool b)

pub values_number : (units : ℤ) → spell.has_values (node.Num units) ≡ spell.is_decimal units
values_number units =
    ap spell.has_values (sym (node.rolls-Num units)) ∙ fold-roll-Node Bool spell.values_step (Node-F.Num units)

pub values_text : (t : List ℕ) → spell.has_values (node.Text t) ≡ is_utf8 t
values_text t = ap spell.has_values (sym (node.rolls-Text t)) ∙ fold-roll-Node Bool spell.values_step (Node-F.Text t)

-- ---- sizes

size_roll : (z : Node-F Node) → size (roll-Node z) ≡ size_step (map-Node Node ℕ size z)
size_roll = fold-roll-Node ℕ size_step

abbrev IsSized : Node → Type 0
IsSized n = 1 ≤ size n

abbrev Sized : Type 0
Sized = (n : Node) × IsSized n

sized_step : (y : Node-F Sized) → IsSized (roll-Node (map-Node Sized Node (λ e. e.0) y))
sized_step y = rw size_roll (go y)
  where
    go : (y : Node-F Sized) → 1 ≤ size_step (map-Node Node ℕ size (map-Node Sized Node (λ e. e.0) y))
    go Node-F.Null = omega arith
    go (Node-F.Bool b) = omega arith
    go (Node-F.Num n) = omega arith
    go (Node-F.Text t) = omega arith
    go (Node-F.Items ys) = omega arith
    go (Node-F.Members ms) = omega arith

node_is_sized : (n : Node) → IsSized n
node_is_sized = ind-Node IsSized (λ x y is. subst (λ z. IsSized (roll-Node z)) is (sized_step y))

pub length-items : (list : List Node) → length list ≤ sum_by size list
length-items [] = omega arith
length-items (n ∷ list) = rw sum_by-cons (omega (arith, node_is_sized n, length-items list))

pub length-members : (list : List (List ℕ × Node)) → length list ≤ sum_by (λ m. length m.0 + size m.1) list
length-members [] = omega arith
length-members (m ∷ list) = rw sum_by-cons (omega (arith, node_is_sized m.1, length-members list))

pub member_fits : (list : List (List ℕ × Node)) (i : ℕ) (m : List ℕ × Node) → i < length list → m ≡ get_or list i m
    → sum_by (λ k. length k.0 + size k.1) list < 2 ^ 32 → size m.1 < 2 ^ 32
member_fits list i m lt is h =
    let one : length (get_or list i m).0 + size (get_or list i m).1 ≤ sum_by (λ k. length k.0 + size k.1) list =
    get_or-le-sum_by (λ k. length k.0 + size k.1) list i m lt in
    let same : size m.1 ≡ size (get_or list i m).1 = ap (λ (k : List ℕ × Node). size k.1) is in
    omega (arith, one, same)
