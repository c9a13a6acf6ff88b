-- What is read of a value is what the value says.
use Rattle.std.proofs.Common.{◌≡◌, ℕ, ℤ, pos, ◌*◌, ◌^◌, ◌≤◌, ◌++◌, inl, inr, Bool, true, false, cond, List, [], ◌∷◌, map, Option, Some, None, unwrap_or, refl, sym, ap, ◌∙◌}
use Rattle.std.specs.Prelude.{codes}
use Rattle.std.specs.List.{flat_map}
use Rattle.std.specs.Option.{option_and_then, option_map_or, option_to_list}
use Rattle.std.specs.Str.{bytes_eq}
use Rattle.doc_model.specs.Tree.{is_among}
use Rattle.doc_model.specs.declared.node.Node.{Node}
use Rattle.doc_model.specs.declared.node.Node.TheVariants as node
use Rattle.doc_model.specs.declared.query.Case.{Case}
use Rattle.doc_model.specs.declared.query.Case.TheVariants as case
use Rattle.doc_model.specs.declared.query.Compare.{Compare}
use Rattle.doc_model.specs.declared.query.Compare.TheVariants.{Eq}
use Rattle.doc_model.specs.declared.scalar.Scalar.{Scalar}
use Rattle.doc_model.specs.declared.scalar.Scalar.TheVariants as scalar
use Rattle.json_text.specs.Grammar.{Member}
use Rattle.cts_meaning.specs.Faults.{IsFaultless}
use Rattle.cts_meaning.specs.Kinds.{items_by, items_in, number_by, number_in, text_by, text_in}
use Rattle.cts_meaning.specs.Saying.{AreOptions, AreScalars, AreTexts, case_of, depth_text, IsCompare, IsDepth, IsDistance, value_of}
use Rattle.cts_meaning.specs.Shapes.{compare_named, compare_text, greatest_distance, has_text, is_text, scalar_node, whole, whole_within}
use Rattle.cts_meaning.specs.declared.shape.Shape.TheVariants as shape
use Rattle.cts_meaning.proofs.Named.{compare_of_text}
use Rattle.cts_meaning.proofs.Values.{one_distance}
use Rattle.cts_meaning.proofs.SaidValues.{distance_read as distance_said}
use Rattle.cts_meaning.proofs.Wholes.{whole_back}
use Rattle.cts_meaning.proofs.Written.{has_among, is_text_text}
use Rattle.cts_meaning.proofs.Nodes.{out_bool, out_items, out_null, out_number, out_text}
use Rattle.cts_text.specs.Values.{case_in, compare_in, distance_in, has_option, is_infinite, own_scalar, own_text, scalar_by, scalars_in, scalars_of, texts_in, texts_of}

-- ---- texts

pub text_in_text : (text : List ℕ) → text_in (node.Text text) ≡ Some text
text_in_text text = ap text_by (out_text text)

own_text_is : (text : List ℕ) → own_text (node.Text text) ≡ text ∷ []
own_text_is text = ap (λ (o : Option (List ℕ)). option_to_list o) (text_in_text text)

texts_of_text : (text : List ℕ) → texts_of (node.Text text) ≡ text ∷ []
texts_of_text text =
    ap (λ (o : Option (List Node)). option_map_or (flat_map own_text) o (own_text (node.Text text)))
    (ap items_by (out_text text)) ∙ own_text_is text

each_own_text : (texts : List (List ℕ)) → flat_map own_text (map node.Text texts) ≡ texts
each_own_text [] = refl
each_own_text (text ∷ texts) =
    ap (λ (front : List (List ℕ)). front ++ flat_map own_text (map node.Text texts)) (own_text_is text)
    ∙ ap (λ (rest : List (List ℕ)). text ∷ rest) (each_own_text texts)

texts_of_items : (items : List Node) → texts_of (node.Items items) ≡ flat_map own_text items
texts_of_items items =
    ap (λ (o : Option (List Node)). option_map_or (flat_map own_text) o (own_text (node.Items items)))
    (ap items_by (out_items items))

texts_at : (found : Option Node) (texts : List (List ℕ)) → AreTexts found texts →
    option_map_or texts_of found [] ≡ texts
texts_at found texts (inl (text, is, one)) =
    ap (λ (o : Option Node). option_map_or texts_of o []) is ∙ texts_of_text text ∙ sym one
texts_at found texts (inr is) =
    ap (λ (o : Option Node). option_map_or texts_of o []) is ∙ texts_of_items (map node.Text texts)
    ∙ each_own_text texts

pub texts_read : (members : List Member) (name : List ℕ) (texts : List (List ℕ)) →
    AreTexts (value_of name members) texts →
    texts_in members name ≡ texts
texts_read members name texts are = texts_at (value_of name members) texts are

-- ---- scalars

own_scalar_is : (s : Scalar) → own_scalar (scalar_node s) ≡ s ∷ []
own_scalar_is scalar.Null = ap scalar_by out_null
own_scalar_is (scalar.Bool b) = ap scalar_by (out_bool b)
own_scalar_is (scalar.Num units) = ap scalar_by (out_number units)
own_scalar_is (scalar.Text text) = ap scalar_by (out_text text)

no_items : (s : Scalar) → items_in (scalar_node s) ≡ None
no_items scalar.Null = ap items_by out_null
no_items (scalar.Bool b) = ap items_by (out_bool b)
no_items (scalar.Num units) = ap items_by (out_number units)
no_items (scalar.Text text) = ap items_by (out_text text)

scalars_of_scalar : (s : Scalar) → scalars_of (scalar_node s) ≡ s ∷ []
scalars_of_scalar s =
    ap (λ (o : Option (List Node)). option_map_or (flat_map own_scalar) o (own_scalar (scalar_node s))) (no_items s)
    ∙ own_scalar_is s

each_own_scalar : (values : List Scalar) → flat_map own_scalar (map scalar_node values) ≡ values
each_own_scalar [] = refl
each_own_scalar (s ∷ values) =
    ap (λ (front : List Scalar). front ++ flat_map own_scalar (map scalar_node values)) (own_scalar_is s)
    ∙ ap (λ (rest : List Scalar). s ∷ rest) (each_own_scalar values)

scalars_of_items : (items : List Node) → scalars_of (node.Items items) ≡ flat_map own_scalar items
scalars_of_items items =
    ap (λ (o : Option (List Node)). option_map_or (flat_map own_scalar) o (own_scalar (node.Items items)))
    (ap items_by (out_items items))

scalars_at : (found : Option Node) (values : List Scalar) → AreScalars found values →
    option_map_or scalars_of found [] ≡ values
scalars_at found values (inl (s, is, one)) =
    ap (λ (o : Option Node). option_map_or scalars_of o []) is ∙ scalars_of_scalar s ∙ sym one
scalars_at found values (inr is) =
    ap (λ (o : Option Node). option_map_or scalars_of o []) is ∙ scalars_of_items (map scalar_node values)
    ∙ each_own_scalar values

pub scalars_read : (members : List Member) (name : List ℕ) (values : List Scalar) →
    AreScalars (value_of name members) values → scalars_in members name ≡ values
scalars_read members name values are = scalars_at (value_of name members) values are

-- ---- options

abbrev option_at : List ℕ → Option Node → Bool
option_at wanted found = option_map_or (λ items. has_text items wanted) (option_and_then items_in found) false

options_at : (wanted : List ℕ) (found : Option Node) (given : List (List ℕ)) → AreOptions found given →
    option_at wanted found ≡ is_among given wanted
options_at wanted None given none = sym (ap (λ (texts : List (List ℕ)). is_among texts wanted) none)
options_at wanted (Some n) given is =
    ap (λ (o : Option (List Node)). option_map_or (λ items. has_text items wanted) o false)
    (ap items_in is ∙ ap items_by (out_items (map node.Text given)))
    ∙ has_among wanted given

pub option_read : (members : List Member) (wanted : List ℕ) (given : List (List ℕ)) →
    AreOptions (value_of (codes "options") members) given → has_option members wanted ≡ is_among given wanted
option_read members wanted given are = options_at wanted (value_of (codes "options") members) given are

abbrev case_by : Bool → Bool → Case
case_by sensitive insensitive =
    cond sensitive case.Sensitive (cond insensitive case.Insensitive case.Auto)

pub case_read : (members : List Member) (given : List (List ℕ)) →
    AreOptions (value_of (codes "options") members) given → case_in members ≡ case_of given
case_read members given are =
    ap (λ (b : Bool). case_by b (has_option members (codes "case-insensitive")))
    (option_read members (codes "case-sensitive") given are)
    ∙ ap (case_by (is_among given (codes "case-sensitive")))
    (option_read members (codes "case-insensitive") given are)

-- ---- other values

abbrev compare_at : Option Node → Compare
compare_at found = unwrap_or (option_and_then compare_named (option_and_then text_in found)) Eq

pub compare_read : (members : List Member) (op : Compare) → IsCompare (value_of (codes "operator") members) op →
    compare_in members ≡ op
compare_read members op is =
    ap compare_at is
    ∙ ap (λ (o : Option (List ℕ)). unwrap_or (option_and_then compare_named o) Eq) (text_in_text (compare_text op))
    ∙ ap (λ (o : Option Compare). unwrap_or o Eq) (compare_of_text op)

abbrev distance_at : Option Node → ℕ
distance_at found = unwrap_or (option_and_then (whole_within greatest_distance) (option_and_then number_in found)) 10

distance_whole : (k : ℕ) → k ≤ greatest_distance → distance_at (Some (whole k)) ≡ k
distance_whole k small =
    ap (λ (o : Option ℤ). unwrap_or (option_and_then (whole_within greatest_distance) o) 10)
    (ap number_by (out_number (pos (k * 10 ^ 18))))
    ∙ ap (λ (o : Option ℕ). unwrap_or o 10) (whole_back greatest_distance k small)

distance_by : (found : Option Node) (distance : ℕ) → ((n : Node) → found ≡ Some n → IsFaultless shape.Distance n) →
    IsDistance found distance → distance_at found ≡ distance
distance_by None distance clean is = sym is
distance_by (Some n) distance clean is =
    let whole = distance_said n (clean n refl) in
    ap (λ (m : Node). distance_at (Some m)) whole.2 ∙ distance_whole whole.0 whole.1
    ∙ one_distance (Some n) whole.0 distance whole.2 is

pub distance_read : (members : List Member) (distance : ℕ) →
    ((n : Node) → value_of (codes "distance") members ≡ Some n → IsFaultless shape.Distance n) →
    IsDistance (value_of (codes "distance") members) distance → distance_in members ≡ distance
distance_read members distance clean is = distance_by (value_of (codes "distance") members) distance clean is

abbrev infinite_at : Option Node → Bool
infinite_at found = option_map_or (is_text (codes "infinity")) found false

far_again : (infinite : Bool) → bytes_eq (codes "infinity") (depth_text infinite) ≡ infinite
far_again true = refl
far_again false = refl

depth_at : (found : Option Node) (infinite : Bool) → IsDepth found infinite → infinite_at found ≡ infinite
depth_at None infinite is = sym is
depth_at (Some n) infinite is =
    ap (is_text (codes "infinity")) is ∙ is_text_text (codes "infinity") (depth_text infinite) ∙ far_again infinite

pub infinite_read : (members : List Member) (infinite : Bool) → IsDepth (value_of (codes "depth") members) infinite →
    is_infinite members ≡ infinite
infinite_read members infinite is = depth_at (value_of (codes "depth") members) infinite is
