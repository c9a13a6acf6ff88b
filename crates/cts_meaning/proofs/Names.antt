-- Whether the names in a node are distinct, from what it holds.
use Rattle.std.proofs.Common.{◌≡◌, ℕ, ℤ, ◌&&◌, Bool, true, List, [], ◌∷◌, map, refl, sym, ap, ◌∙◌}
use Rattle.std.proofs.lemmas.Bool.{and_from}
use Rattle.std.proofs.lemmas.List.Folds.{list_all-map}
use Rattle.std.specs.List.{list_all}
use Rattle.doc_model.specs.Tree.{has_distinct_names, is_distinct, names_step}
use Rattle.doc_model.specs.declared.node.Node.{Node}
use Rattle.doc_model.specs.declared.node.Node.TheVariants as node
use Rattle.doc_model.specs.declared.node.Node.TheOpen.{Node-F}
use Rattle.doc_model.specs.declared.node.Node.TheFolds.{fold-roll-Node}
use Rattle.doc_model.specs.declared.scalar.Scalar.{Scalar}
use Rattle.doc_model.specs.declared.scalar.Scalar.TheVariants as scalar
use Rattle.json_text.specs.Grammar.{Member}
use Rattle.cts_meaning.specs.Canonical.{scalars_node, texts_node}
use Rattle.cts_meaning.specs.Shapes.{scalar_node}

names_null : has_distinct_names node.Null ≡ true
names_null = ap has_distinct_names (sym node.rolls-Null) ∙ fold-roll-Node Bool names_step Node-F.Null

names_bool : (b : Bool) → has_distinct_names (node.Bool b) ≡ true
names_bool b = ap has_distinct_names (sym (node.rolls-Bool b)) ∙ fold-roll-Node Bool names_step (Node-F.Bool b)

pub names_number : (k : ℤ) → has_distinct_names (node.Num k) ≡ true
names_number k = ap has_distinct_names (sym (node.rolls-Num k)) ∙ fold-roll-Node Bool names_step (Node-F.Num k)

pub names_text : (text : List ℕ) → has_distinct_names (node.Text text) ≡ true
names_text text = ap has_distinct_names (sym (node.rolls-Text text)) ∙ fold-roll-Node Bool names_step (Node-F.Text text)

pub names_items : (items : List Node) → has_distinct_names (node.Items items) ≡ list_all has_distinct_names items
names_items items = ap has_distinct_names (sym (node.rolls-Items items))
    ∙ fold-roll-Node Bool names_step (Node-F.Items items) ∙ list_all-map (λ item. item) has_distinct_names items

names_scalar : (s : Scalar) → has_distinct_names (scalar_node s) ≡ true
names_scalar scalar.Null = names_null
names_scalar (scalar.Bool b) = names_bool b
names_scalar (scalar.Num k) = names_number k
names_scalar (scalar.Text text) = names_text text

-- the names of some members
abbrev pub member_names : List Member → List (List ℕ)
member_names members = map (λ m. m.0) members

abbrev named : Member → List ℕ × Bool
named m = (m.0, has_distinct_names m.1)

map_named : (members : List Member) → map (λ (m : List ℕ × Bool). m.0) (map named members) ≡ member_names members
map_named [] = refl
map_named (m ∷ ms) = ap (λ (rest : List (List ℕ)). m.0 ∷ rest) (map_named ms)

pub names_members : (members : List Member) → has_distinct_names (node.Members members)
    ≡ (is_distinct (member_names members) && list_all (λ m. has_distinct_names m.1) members)
names_members members =
    ap has_distinct_names (sym (node.rolls-Members members)) ∙ fold-roll-Node Bool names_step (Node-F.Members members)
    ∙ ap (λ (names : List (List ℕ)). is_distinct names && list_all (λ (m : List ℕ × Bool). m.1) (map named members))
    (map_named members)
    ∙ ap (λ (b : Bool). is_distinct (member_names members) && b)
    (list_all-map (λ (m : List ℕ × Bool). m.1) named members)

all_texts : (texts : List (List ℕ)) → list_all has_distinct_names (map node.Text texts) ≡ true
all_texts [] = refl
all_texts (text ∷ texts) =
    and_from (has_distinct_names (node.Text text)) (list_all has_distinct_names (map node.Text texts))
    (names_text text) (all_texts texts)

pub names_texts : (texts : List (List ℕ)) → has_distinct_names (texts_node texts) ≡ true
names_texts texts = names_items (map node.Text texts) ∙ all_texts texts

all_scalars : (values : List Scalar) → list_all has_distinct_names (map scalar_node values) ≡ true
all_scalars [] = refl
all_scalars (value ∷ values) =
    and_from (has_distinct_names (scalar_node value)) (list_all has_distinct_names (map scalar_node values))
    (names_scalar value) (all_scalars values)

pub names_scalars : (values : List Scalar) → has_distinct_names (scalars_node values) ≡ true
names_scalars values = names_items (map scalar_node values) ∙ all_scalars values
