-- The JSON of queries: its forms, the members of each, and what each member may hold.
use Rattle.std.specs.Prelude.{ℕ, ℤ, pos, negsuc, ◌*◌, ◌/◌, ◌%◌, ◌^◌, ◌==◌, ◌&&◌, ◌||◌, nat_le, Bool, true, false, nat_eq, List, [], ◌∷◌, map, length, Option, Some, None, is_some, codes, if◌then◌else◌}
use Rattle.std.specs.List.{find, flat_map, list_all, list_any, starts_with}
use Rattle.std.specs.Option.{option_map, option_map_or, option_to_list}
use Rattle.std.specs.Str.{bytes_eq}
use Rattle.doc_model.specs.Tree.{is_among}
use Rattle.doc_model.specs.declared.node.Node.{Node}
use Rattle.doc_model.specs.declared.node.Node.TheOpen.{Node-F}
use Rattle.doc_model.specs.declared.node.Node.TheVariants as node
use Rattle.doc_model.specs.declared.node.Node.TheViews.{out-Node}
use Rattle.doc_model.specs.declared.query.Compare.{Compare}
use Rattle.doc_model.specs.declared.query.Compare.TheVariants.{Lt, Le, Gt, Ge, Eq, Ne}
use Rattle.doc_model.specs.declared.scalar.Scalar.{Scalar}
use Rattle.doc_model.specs.declared.scalar.Scalar.TheVariants as scalar
use Rattle.json_text.specs.Grammar.{Member}
use Rattle.cts_meaning.specs.Kinds.{text_in}
use Rattle.cts_meaning.specs.declared.form.QueryForm.{QueryForm}
use Rattle.cts_meaning.specs.declared.form.QueryForm.TheVariants as form
use Rattle.cts_meaning.specs.declared.shape.OptionKind.{OptionKind}
use Rattle.cts_meaning.specs.declared.shape.OptionKind.TheVariants as options
use Rattle.cts_meaning.specs.declared.shape.Shape.{Shape}
use Rattle.cts_meaning.specs.declared.shape.Shape.TheVariants as shape

-- the name of the one member of a query, by its form
abbrev pub form_name : QueryForm → List ℕ
form_name form.True = codes "trueQuery"
form_name form.False = codes "falseQuery"
form_name form.And = codes "andQuery"
form_name form.Or = codes "orQuery"
form_name form.Not = codes "notQuery"
form_name form.AndNot = codes "andNotQuery"
form_name form.Word = codes "wordQuery"
form_name form.PropWord = codes "jsonPropertyWordQuery"
form_name form.PropValue = codes "jsonPropertyValueQuery"
form_name form.Range = codes "jsonPropertyRangeQuery"
form_name form.Near = codes "nearQuery"
form_name form.Collection = codes "collectionQuery"
form_name form.DocUri = codes "documentQuery"
form_name form.Directory = codes "directoryQuery"

abbrev pub forms : List QueryForm
forms =
    form.True ∷ form.False ∷ form.And ∷ form.Or ∷ form.Not ∷ form.AndNot ∷ form.Word ∷ form.PropWord ∷ form.PropValue
    ∷ form.Range ∷ form.Near ∷ form.Collection ∷ form.DocUri ∷ form.Directory ∷ []

-- the form of this name
abbrev pub form_named : List ℕ → Option QueryForm
form_named name = find (λ f. bytes_eq (form_name f) name) forms

-- a member that the argument object of a form has, or may have
pub record Field : Type 0 where
  pub name : List ℕ
  pub shape : Shape
  pub optional : Bool

abbrev pub needs : List ℕ → Shape → Field
needs name wanted = record { name = name; shape = wanted; optional = false }

abbrev pub allows : List ℕ → Shape → Field
allows name wanted = record { name = name; shape = wanted; optional = true }

-- the members of the argument object of each form
abbrev pub fields_of : QueryForm → List Field
fields_of form.True = []
fields_of form.False = []
fields_of form.And = needs (codes "queries") shape.Queries ∷ []
fields_of form.Or = needs (codes "queries") shape.Queries ∷ []
fields_of form.Not = needs (codes "query") shape.Query ∷ []
fields_of form.AndNot = needs (codes "positiveQuery") shape.Query ∷ needs (codes "negativeQuery") shape.Query ∷ []
fields_of form.Word = needs (codes "text") shape.Texts ∷ allows (codes "options") (shape.Options options.Word) ∷ []
fields_of form.PropWord =
    needs (codes "property") shape.Texts ∷ needs (codes "text") shape.Texts
    ∷ allows (codes "options") (shape.Options options.Word) ∷ []
fields_of form.PropValue =
    needs (codes "property") shape.Texts ∷ needs (codes "value") shape.Scalars
    ∷ allows (codes "options") (shape.Options options.Value) ∷ []
fields_of form.Range =
    needs (codes "property") shape.Texts ∷ needs (codes "operator") shape.Compare
    ∷ needs (codes "value") shape.Comparables ∷ []
fields_of form.Near =
    needs (codes "queries") shape.Queries ∷ allows (codes "distance") shape.Distance
    ∷ allows (codes "options") (shape.Options options.Near) ∷ []
fields_of form.Collection = needs (codes "uris") shape.Texts ∷ []
fields_of form.DocUri = needs (codes "uris") shape.Texts ∷ []
fields_of form.Directory = needs (codes "uris") shape.Texts ∷ allows (codes "depth") shape.Depth ∷ []

-- < <= > >= = !=
abbrev pub compare_text : Compare → List ℕ
compare_text Lt = codes "<"
compare_text Le = codes "<="
compare_text Gt = codes ">"
compare_text Ge = codes ">="
compare_text Eq = codes "="
compare_text Ne = codes "!="

abbrev pub compares : List Compare
compares = Lt ∷ Le ∷ Gt ∷ Ge ∷ Eq ∷ Ne ∷ []

-- the comparison of this sign
abbrev pub compare_named : List ℕ → Option Compare
compare_named text = find (λ op. bytes_eq (compare_text op) text) compares

-- a scalar as a node
abbrev pub scalar_node : Scalar → Node
scalar_node scalar.Null = node.Null
scalar_node (scalar.Bool b) = node.Bool b
scalar_node (scalar.Num n) = node.Num n
scalar_node (scalar.Text text) = node.Text text

-- a whole number as a node, however it is written
abbrev pub whole : ℕ → Node
whole k = node.Num (pos (k * 10 ^ 18))

-- the whole number that so many units of 10^-18 are, if it is at most this
abbrev pub distance_units : ℕ → ℕ → Option ℕ
distance_units most units =
    if (units % 10 ^ 18 == 0) && nat_le (units / 10 ^ 18) most then Some (units / 10 ^ 18) else None

abbrev pub whole_within : ℕ → ℤ → Option ℕ
whole_within most (pos units) = distance_units most units
whole_within most (negsuc n) = None

-- the greatest distance
abbrev pub greatest_distance : ℕ
greatest_distance = 4294967295

-- the two case options, and the two order options; two of a kind exclude each other
abbrev pub both_cases : List (List ℕ)
both_cases = codes "case-sensitive" ∷ codes "case-insensitive" ∷ []

abbrev pub both_orders : List (List ℕ)
both_orders = codes "ordered" ∷ codes "unordered" ∷ []

-- an option for a language, which has no effect
abbrev pub is_language : List ℕ → Bool
is_language text = starts_with nat_eq text (codes "lang=")

-- an option of this kind
abbrev pub is_option : OptionKind → List ℕ → Bool
is_option options.Word text = is_among both_cases text || is_language text
is_option options.Value text = is_among both_cases text || bytes_eq text (codes "exact") || is_language text
is_option options.Near text = is_among both_orders text

-- a node is this text
abbrev pub is_text : List ℕ → Node → Bool
is_text wanted n = option_map_or (bytes_eq wanted) (text_in n) false

-- this text is one of the items
abbrev pub has_text : List Node → List ℕ → Bool
has_text items wanted = list_any (is_text wanted) items

-- both case options are among the items, or both order options, whatever query they are of
abbrev pub has_rivals : List Node → Bool
has_rivals items = list_all (has_text items) both_cases || list_all (has_text items) both_orders

-- a node, and the shape as which it is judged
abbrev pub ShapedNode : Type 0
ShapedNode = Shape × Node

-- what fits in a place: null and booleans; which numbers and texts; which arrays, with what their items are to be;
-- which objects, with what the members of a name are to be
pub record Rule : Type 0 where
  pub flat : Bool
  pub number : ℤ → Bool
  pub text : List ℕ → Bool
  pub array : List Node → Option Shape
  pub member : List ℕ → Option Shape
  pub members : List Member → Bool

-- no array and no object
abbrev pub scalars : Bool → (ℤ → Bool) → (List ℕ → Bool) → Rule
scalars flat number text = record {
  flat = flat;
  number = number;
  text = text;
  array = λ items. None;
  member = λ name. None;
  members = λ members. false;
}

-- such a scalar, or an array of items of this shape
abbrev pub scalars_or : Shape → Bool → (ℤ → Bool) → (List ℕ → Bool) → Rule
scalars_or item flat number text = record {
  flat = flat;
  number = number;
  text = text;
  array = λ items. Some item;
  member = λ name. None;
  members = λ members. false;
}

abbrev pub arrays : (List Node → Option Shape) → Rule
arrays array = record {
  flat = false;
  number = λ units. false;
  text = λ text. false;
  array = array;
  member = λ name. None;
  members = λ members. false;
}

abbrev pub objects : (List ℕ → Option Shape) → (List Member → Bool) → Rule
objects member members = record {
  flat = false;
  number = λ units. false;
  text = λ text. false;
  array = λ items. None;
  member = member;
  members = members;
}

-- texts of which this holds, and nothing else
abbrev pub texts : (List ℕ → Bool) → Rule
texts test = scalars false (λ units. false) test

-- what the member of this name is to be, in an object with these fields
abbrev pub field_shape : List Field → List ℕ → Option Shape
field_shape fields name = option_map (λ field. field.shape) (find (λ field. bytes_eq field.name name) fields)

-- the field may be left out, or is there
abbrev pub is_given : List Member → Field → Bool
is_given members field = field.optional || is_among (map (λ m. m.0) members) field.name

-- each shape's rule
abbrev pub rule_of : Shape → Rule
rule_of shape.Query =
    objects (λ name. option_map (λ f. shape.Argument f) (form_named name)) (λ members. length members == 1)
rule_of (shape.Argument f) =
    objects (field_shape (fields_of f)) (λ members. list_all (is_given members) (fields_of f))
rule_of shape.Queries = arrays (λ items. Some shape.Query)
rule_of shape.Texts = scalars_or shape.Text false (λ units. false) (λ text. true)
rule_of shape.Text = texts (λ text. true)
rule_of shape.Scalars = scalars_or shape.Scalar true (λ units. true) (λ text. true)
rule_of shape.Scalar = scalars true (λ units. true) (λ text. true)
rule_of shape.Comparables = scalars_or shape.Comparable false (λ units. true) (λ text. true)
rule_of shape.Comparable = scalars false (λ units. true) (λ text. true)
rule_of shape.Compare = texts (λ text. is_some (compare_named text))
rule_of shape.Distance = scalars false (λ units. is_some (whole_within greatest_distance units)) (λ text. false)
rule_of shape.Depth = texts (λ text. bytes_eq text (codes "1") || bytes_eq text (codes "infinity"))
rule_of (shape.Options kind) = arrays (λ items. if has_rivals items then None else Some (shape.Option kind))
rule_of (shape.Option kind) = texts (is_option kind)

-- the items of an array, each judged as this shape
abbrev pub item_parts : Shape → List Node → List ShapedNode
item_parts item items = map (λ i. (item, i)) items

-- the values of members, each judged as what its name asks
abbrev pub member_part : (List ℕ → Option Shape) → Member → List ShapedNode
member_part asked member = option_to_list (option_map (λ part. (part, member.1)) (asked member.0))

abbrev pub member_parts : (List ℕ → Option Shape) → List Member → List ShapedNode
member_parts asked members = flat_map (member_part asked) members

-- no member has an unknown name, and none is missing
abbrev pub fits_object : Rule → List Member → Bool
fits_object rule members = rule.members members && list_all (λ m. is_some (rule.member m.0)) members

-- the parts of a scalar, an array and an object that fit
abbrev pub no_parts : Bool → Option (List ShapedNode)
no_parts fits = if fits then Some [] else None

abbrev pub array_parts : Rule → List Node → Option (List ShapedNode)
array_parts rule items = option_map (λ item. item_parts item items) (rule.array items)

abbrev pub object_parts : Rule → List Member → Option (List ShapedNode)
object_parts rule members = if fits_object rule members then Some (member_parts rule.member members) else None

abbrev pub children_by : Rule → Node-F Node → Option (List ShapedNode)
children_by rule Node-F.Null = no_parts rule.flat
children_by rule (Node-F.Bool b) = no_parts rule.flat
children_by rule (Node-F.Num units) = no_parts (rule.number units)
children_by rule (Node-F.Text text) = no_parts (rule.text text)
children_by rule (Node-F.Items items) = array_parts rule items
children_by rule (Node-F.Members members) = object_parts rule members

-- the parts of a node that fits its shape, each with the shape as which it is judged, whatever these parts are
abbrev pub shaped_children : Shape → Node → Option (List ShapedNode)
shaped_children shape n = children_by (rule_of shape) (out-Node n)
