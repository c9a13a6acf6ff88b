-- What the members of an argument object hold.
use Rattle.std.specs.Prelude.{ℕ, Bool, false, List, [], ◌∷◌, unwrap_or, codes, if◌then◌else◌}
use Rattle.std.specs.List.{flat_map}
use Rattle.std.specs.Option.{option_and_then, option_map_or, option_to_list}
use Rattle.doc_model.specs.declared.node.Node.{Node}
use Rattle.doc_model.specs.declared.node.Node.TheOpen.{Node-F}
use Rattle.doc_model.specs.declared.node.Node.TheViews.{out-Node}
use Rattle.doc_model.specs.declared.query.Case.{Case}
use Rattle.doc_model.specs.declared.query.Case.TheVariants as case
use Rattle.doc_model.specs.declared.query.Compare.{Compare}
use Rattle.doc_model.specs.declared.query.Compare.TheVariants.{Eq}
use Rattle.doc_model.specs.declared.scalar.Scalar.{Scalar}
use Rattle.doc_model.specs.declared.scalar.Scalar.TheVariants as scalar
use Rattle.json_text.specs.Grammar.{Member}
use Rattle.cts_meaning.specs.Kinds.{items_in, number_in, text_in}
use Rattle.cts_meaning.specs.Saying.{value_of}
use Rattle.cts_meaning.specs.Shapes.{compare_named, greatest_distance, has_text, is_text, whole_within}

-- the text that a node is
abbrev pub own_text : Node → List (List ℕ)
own_text n = option_to_list (text_in n)

-- the texts among the items of an array, or the one text
abbrev pub texts_of : Node → List (List ℕ)
texts_of n = option_map_or (flat_map own_text) (items_in n) (own_text n)

abbrev pub texts_in : List Member → List ℕ → List (List ℕ)
texts_in members name = option_map_or texts_of (value_of name members) []

-- the same with scalars
abbrev pub scalar_by : Node-F Node → List Scalar
scalar_by Node-F.Null = scalar.Null ∷ []
scalar_by (Node-F.Bool b) = scalar.Bool b ∷ []
scalar_by (Node-F.Num units) = scalar.Num units ∷ []
scalar_by (Node-F.Text text) = scalar.Text text ∷ []
scalar_by (Node-F.Items items) = []
scalar_by (Node-F.Members members) = []

abbrev pub own_scalar : Node → List Scalar
own_scalar n = scalar_by (out-Node n)

abbrev pub scalars_of : Node → List Scalar
scalars_of n = option_map_or (flat_map own_scalar) (items_in n) (own_scalar n)

abbrev pub scalars_in : List Member → List ℕ → List Scalar
scalars_in members name = option_map_or scalars_of (value_of name members) []

-- an option is among the options
abbrev pub has_option : List Member → List ℕ → Bool
has_option members wanted =
    option_map_or (λ items. has_text items wanted) (option_and_then items_in (value_of (codes "options") members)) false

abbrev pub case_in : List Member → Case
case_in members =
    if has_option members (codes "case-sensitive") then case.Sensitive
    else if has_option members (codes "case-insensitive") then case.Insensitive
    else case.Auto

-- equality where there is no comparison
abbrev pub compare_in : List Member → Compare
compare_in members =
    unwrap_or (option_and_then compare_named (option_and_then text_in (value_of (codes "operator") members))) Eq

-- 10 where there is no distance
abbrev pub distance_in : List Member → ℕ
distance_in members =
    unwrap_or (option_and_then (whole_within greatest_distance)
    (option_and_then number_in (value_of (codes "distance") members))) 10

abbrev pub is_infinite : List Member → Bool
is_infinite members = option_map_or (is_text (codes "infinity")) (value_of (codes "depth") members) false
