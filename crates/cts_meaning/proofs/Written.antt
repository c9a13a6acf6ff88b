-- What is written in the places of an argument object has no fault.
use Rattle.std.proofs.Common.{◌≡◌, ℕ, pos, ◌*◌, ◌^◌, ◌≤◌, Bool, true, false, cond, ◌&&◌, ◌||◌, List, [], ◌∷◌, ◌++◌, map, Option, Some, None, is_some, refl, ap, ◌∙◌}
use Rattle.std.proofs.lemmas.Bool.{and_parts}
use Rattle.std.specs.Prelude.{codes}
use Rattle.std.specs.List.{list_all}
use Rattle.std.specs.Option.{option_map, option_map_or}
use Rattle.std.specs.Str.{bytes_eq}
use Rattle.doc_model.specs.Queries.{kind_of}
use Rattle.doc_model.specs.Tree.{is_among}
use Rattle.doc_model.specs.declared.node.Node.{Node}
use Rattle.doc_model.specs.declared.node.Node.TheOpen.{Node-F}
use Rattle.doc_model.specs.declared.node.Node.TheVariants as node
use Rattle.doc_model.specs.declared.query.Case.{Case}
use Rattle.doc_model.specs.declared.query.Case.TheVariants as case
use Rattle.doc_model.specs.declared.query.Compare.{Compare}
use Rattle.doc_model.specs.declared.scalar.Scalar.{Scalar}
use Rattle.doc_model.specs.declared.scalar.Scalar.TheVariants as scalar
use Rattle.cts_meaning.specs.Canonical.{case_options, option_if, scalars_node, texts_node}
use Rattle.cts_meaning.specs.Faults.{AreFaultless, IsFaultless}
use Rattle.cts_meaning.specs.Kinds.{text_by}
use Rattle.cts_meaning.specs.Saying.{case_of, depth_text}
use Rattle.cts_meaning.specs.Shapes.{both_cases, both_orders, compare_text, greatest_distance, has_rivals, has_text, is_option, is_text, item_parts, no_parts, children_by, shaped_children, rule_of, scalar_node, whole}
use Rattle.cts_meaning.specs.declared.shape.OptionKind.{OptionKind}
use Rattle.cts_meaning.specs.declared.shape.OptionKind.TheVariants as options
use Rattle.cts_meaning.specs.declared.shape.Shape.{Shape}
use Rattle.cts_meaning.specs.declared.shape.Shape.TheVariants as shape
use Rattle.cts_meaning.proofs.Least.{faultless_of}
use Rattle.cts_meaning.proofs.Named.{compare_of_text}
use Rattle.cts_meaning.proofs.Nodes.{out_bool, out_items, out_null, out_number, out_text}
use Rattle.cts_meaning.proofs.Wholes.{whole_back}

-- a node that fits without parts has no fault
leaf_clean : (wanted : Shape) (n : Node) → shaped_children wanted n ≡ Some [] → IsFaultless wanted n
leaf_clean wanted n fits = faultless_of wanted n [] fits tt

text_fits : (wanted : Shape) (text : List ℕ) → (rule_of wanted).text text ≡ true →
    IsFaultless wanted (node.Text text)
text_fits wanted text fits = leaf_clean wanted (node.Text text)
    (ap (children_by (rule_of wanted)) (out_text text) ∙ ap (λ (b : Bool). cond b (Some []) None) fits)

-- an array that fits has no fault where its items have none
array_fits : (wanted item : Shape) (items : List Node) → (rule_of wanted).array items ≡ Some item →
    AreFaultless (item_parts item items) → IsFaultless wanted (node.Items items)
array_fits wanted item items fits clean = faultless_of wanted (node.Items items) (item_parts item items)
    (ap (children_by (rule_of wanted)) (out_items items)
    ∙ ap (λ (o : Option Shape). option_map (λ k. item_parts k items) o) fits) clean

module _ {A : Type 0} (spelled : A → Node) (item : Shape) where
  all_clean : ((a : A) → IsFaultless item (spelled a)) → (values : List A) →
      AreFaultless (item_parts item (map spelled values))
  all_clean each [] = tt
  all_clean each (value ∷ values) = (each value, all_clean each values)

  those_clean : (test : A → Bool) → ((a : A) → test a ≡ true → IsFaultless item (spelled a)) → (values : List A) →
      list_all test values ≡ true → AreFaultless (item_parts item (map spelled values))
  those_clean test each [] all = tt
  those_clean test each (value ∷ values) all =
      let parts = and_parts (test value) (list_all test values) all in
      (each value parts.0, those_clean test each values parts.1)

text_clean : (text : List ℕ) → IsFaultless shape.Text (node.Text text)
text_clean text = text_fits shape.Text text refl

pub texts_clean : (texts : List (List ℕ)) → IsFaultless shape.Texts (texts_node texts)
texts_clean texts = array_fits shape.Texts shape.Text (map node.Text texts) refl
    (all_clean node.Text shape.Text text_clean texts)

scalar_clean : (s : Scalar) → IsFaultless shape.Scalar (scalar_node s)
scalar_clean scalar.Null = leaf_clean shape.Scalar node.Null (ap (children_by (rule_of shape.Scalar)) out_null)
scalar_clean (scalar.Bool b) = leaf_clean shape.Scalar (node.Bool b) (ap (children_by (rule_of shape.Scalar)) (out_bool b))
scalar_clean (scalar.Num k) = leaf_clean shape.Scalar (node.Num k) (ap (children_by (rule_of shape.Scalar)) (out_number k))
scalar_clean (scalar.Text text) = text_fits shape.Scalar text refl

pub scalars_clean : (values : List Scalar) → IsFaultless shape.Scalars (scalars_node values)
scalars_clean values = array_fits shape.Scalars shape.Scalar (map scalar_node values) refl
    (all_clean scalar_node shape.Scalar scalar_clean values)

abbrev pub is_ordered : Scalar → Bool
is_ordered s = is_some (kind_of s)

comparable_clean : (s : Scalar) → is_ordered s ≡ true → IsFaultless shape.Comparable (scalar_node s)
comparable_clean scalar.Null ordered = absurd cc
comparable_clean (scalar.Bool b) ordered = absurd cc
comparable_clean (scalar.Num k) ordered =
    leaf_clean shape.Comparable (node.Num k) (ap (children_by (rule_of shape.Comparable)) (out_number k))
comparable_clean (scalar.Text text) ordered = text_fits shape.Comparable text refl

pub comparables_clean : (values : List Scalar) → list_all is_ordered values ≡ true →
    IsFaultless shape.Comparables (scalars_node values)
comparables_clean values all = array_fits shape.Comparables shape.Comparable (map scalar_node values) refl
    (those_clean scalar_node shape.Comparable is_ordered comparable_clean values all)

pub compare_clean : (op : Compare) → IsFaultless shape.Compare (node.Text (compare_text op))
compare_clean op = text_fits shape.Compare (compare_text op)
    (ap (λ (o : Option Compare). is_some o) (compare_of_text op))

pub distance_clean : (distance : ℕ) → distance ≤ greatest_distance → IsFaultless shape.Distance (whole distance)
distance_clean distance small = leaf_clean shape.Distance (whole distance)
    (ap (children_by (rule_of shape.Distance)) (out_number (pos (distance * 10 ^ 18)))
    ∙ ap (λ (o : Option ℕ). no_parts (is_some o)) (whole_back greatest_distance distance small))

pub infinity_clean : IsFaultless shape.Depth (node.Text (depth_text true))
infinity_clean = text_fits shape.Depth (depth_text true) refl

-- ---- options

pub is_text_text : (wanted text : List ℕ) → is_text wanted (node.Text text) ≡ bytes_eq wanted text
is_text_text wanted text =
    ap (λ (y : Node-F Node). option_map_or (bytes_eq wanted) (text_by y) false) (out_text text)

-- a text among the items of an array of texts is one of the texts
pub has_among : (wanted : List ℕ) (given : List (List ℕ)) →
    has_text (map node.Text given) wanted ≡ is_among given wanted
has_among wanted [] = refl
has_among wanted (text ∷ given) =
    ap (λ (b : Bool). b || has_text (map node.Text given) wanted) (is_text_text wanted text)
    ∙ ap (λ (b : Bool). bytes_eq wanted text || b) (has_among wanted given)

abbrev rivals_among : List (List ℕ) → Bool
rivals_among given = list_all (is_among given) both_cases || list_all (is_among given) both_orders

all_among : (given wanted : List (List ℕ)) →
    list_all (has_text (map node.Text given)) wanted ≡ list_all (is_among given) wanted
all_among given [] = refl
all_among given (text ∷ wanted) =
    ap (λ (b : Bool). b && list_all (has_text (map node.Text given)) wanted) (has_among text given)
    ∙ ap (λ (b : Bool). is_among given text && b) (all_among given wanted)

no_rivals : (given : List (List ℕ)) → rivals_among given ≡ false → has_rivals (map node.Text given) ≡ false
no_rivals given none =
    ap (λ (b : Bool). b || list_all (has_text (map node.Text given)) both_orders) (all_among given both_cases)
    ∙ ap (λ (b : Bool). list_all (is_among given) both_cases || b) (all_among given both_orders) ∙ none

option_clean : (kind : OptionKind) (text : List ℕ) → is_option kind text ≡ true →
    IsFaultless (shape.Option kind) (node.Text text)
option_clean kind text may = text_fits (shape.Option kind) text may

-- some options without a fault
options_clean : (kind : OptionKind) (given : List (List ℕ)) → list_all (is_option kind) given ≡ true →
    rivals_among given ≡ false → IsFaultless (shape.Options kind) (texts_node given)
options_clean kind given all none = array_fits (shape.Options kind) (shape.Option kind) (map node.Text given)
    (ap (λ (b : Bool). cond b None (Some (shape.Option kind))) (no_rivals given none))
    (those_clean node.Text (shape.Option kind) (is_option kind) (option_clean kind) given all)

pub case_clean : (c : Case) → IsFaultless (shape.Options options.Word) (texts_node (case_options c))
case_clean case.Auto = options_clean options.Word (case_options case.Auto) refl refl
case_clean case.Sensitive = options_clean options.Word (case_options case.Sensitive) refl refl
case_clean case.Insensitive = options_clean options.Word (case_options case.Insensitive) refl refl

pub case_again : (c : Case) → case_of (case_options c) ≡ c
case_again case.Auto = refl
case_again case.Sensitive = refl
case_again case.Insensitive = refl

abbrev pub value_options : Case → Bool → List (List ℕ)
value_options c exact = case_options c ++ option_if exact (codes "exact")

pub value_clean : (c : Case) (exact : Bool) →
    IsFaultless (shape.Options options.Value) (texts_node (value_options c exact))
value_clean case.Auto true = options_clean options.Value (value_options case.Auto true) refl refl
value_clean case.Auto false = options_clean options.Value (value_options case.Auto false) refl refl
value_clean case.Sensitive true = options_clean options.Value (value_options case.Sensitive true) refl refl
value_clean case.Sensitive false = options_clean options.Value (value_options case.Sensitive false) refl refl
value_clean case.Insensitive true = options_clean options.Value (value_options case.Insensitive true) refl refl
value_clean case.Insensitive false = options_clean options.Value (value_options case.Insensitive false) refl refl

pub value_case : (c : Case) (exact : Bool) → case_of (value_options c exact) ≡ c
value_case case.Auto true = refl
value_case case.Auto false = refl
value_case case.Sensitive true = refl
value_case case.Sensitive false = refl
value_case case.Insensitive true = refl
value_case case.Insensitive false = refl

pub value_exact : (c : Case) (exact : Bool) → is_among (value_options c exact) (codes "exact") ≡ exact
value_exact case.Auto true = refl
value_exact case.Auto false = refl
value_exact case.Sensitive true = refl
value_exact case.Sensitive false = refl
value_exact case.Insensitive true = refl
value_exact case.Insensitive false = refl

abbrev pub order_options : Bool → List (List ℕ)
order_options ordered = option_if ordered (codes "ordered")

pub order_clean : (ordered : Bool) → IsFaultless (shape.Options options.Near) (texts_node (order_options ordered))
order_clean true = options_clean options.Near (order_options true) refl refl
order_clean false = options_clean options.Near (order_options false) refl refl

pub order_again : (ordered : Bool) → is_among (order_options ordered) (codes "ordered") ≡ ordered
order_again true = refl
order_again false = refl
