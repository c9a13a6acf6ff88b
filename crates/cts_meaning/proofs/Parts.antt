-- What a node is that fits a rule, and its parts. Its nodes are itself and those of its parts.
use Rattle.std.proofs.Common.{◌≡◌, ℕ, ℤ, ◌+◌, ◌⊎◌, inl, inr, Bool, true, false, cond, List, [], ◌∷◌, ◌++◌, map, sum_by, Option, Some, None, is_some, refl, sym, ap, ◌∙◌, arith}
use Rattle.std.proofs.lemmas.Bool.{and_parts}
use Rattle.std.proofs.lemmas.List.Sums.{sum_by-cons}
use Rattle.std.specs.List.{list_all}
use Rattle.std.specs.Option.{option_map, option_to_list}
use Rattle.doc_model.specs.declared.node.Node.{Node}
use Rattle.doc_model.specs.declared.node.Node.TheOpen.{Node-F}
use Rattle.doc_model.specs.declared.node.Node.TheVariants as node
use Rattle.doc_model.specs.declared.node.Node.TheViews.{out-Node}
use Rattle.doc_model.specs.declared.scalar.Scalar.{Scalar}
use Rattle.doc_model.specs.declared.scalar.Scalar.TheVariants as scalar
use Rattle.json_text.specs.Grammar.{Member}
use Rattle.cts_meaning.specs.Faults.{node_count, number_behind}
use Rattle.cts_meaning.specs.Shapes.{ShapedNode, Rule, arrays, fits_object, item_parts, member_parts, no_parts, objects, children_by, shaped_children, rule_of, scalar_node, scalars, scalars_or, texts}
use Rattle.cts_meaning.specs.declared.shape.Shape.{Shape}
use Rattle.cts_meaning.proofs.Counts.{count_items, count_members, member_count, part_count, sum_items}
use Rattle.cts_meaning.proofs.Named.{not_some, same_some}
use Rattle.cts_meaning.proofs.Nodes.{Sort, out_bool, out_items, out_members, out_null, out_number, out_text, sort}
use Rattle.cts_meaning.proofs.Scalars.{scalar_count}

-- a node that fits a shape has one list of parts
pub one_list : {o : Option (List ShapedNode)} (parts others : List ShapedNode) → o ≡ Some parts → o ≡ Some others → parts ≡ others
one_list parts others fits also = same_some parts others (sym fits ∙ also)

-- ---- what fits

-- a scalar fits
abbrev pub takes : Rule → Scalar → Bool
takes rule scalar.Null = rule.flat
takes rule (scalar.Bool b) = rule.flat
takes rule (scalar.Num units) = rule.number units
takes rule (scalar.Text text) = rule.text text

pub data Fit (rule : Rule) (n : Node) (parts : List ShapedNode) : Type 0 where
  is_scalar : (s : Scalar) → n ≡ scalar_node s → takes rule s ≡ true → parts ≡ [] → Fit rule n parts
  is_array : (items : List Node) (item : Shape) → n ≡ node.Items items → rule.array items ≡ Some item
      → parts ≡ item_parts item items → Fit rule n parts
  is_object : (members : List Member) → n ≡ node.Members members → fits_object rule members ≡ true
      → parts ≡ member_parts rule.member members → Fit rule n parts

alone_fit : (rule : Rule) (n : Node) (parts : List ShapedNode) (s : Scalar) (b : Bool) → n ≡ scalar_node s →
    takes rule s ≡ b → no_parts b ≡ Some parts → Fit rule n parts
alone_fit rule n parts s true is e fits = Fit.is_scalar s is e (sym (same_some [] parts fits))
alone_fit rule n parts s false is e fits = absurd (not_some parts fits)

array_fit : (rule : Rule) (n : Node) (parts : List ShapedNode) (items : List Node) (o : Option Shape) →
    n ≡ node.Items items → rule.array items ≡ o → option_map (λ item. item_parts item items) o ≡ Some parts →
    Fit rule n parts
array_fit rule n parts items None is e fits = absurd (not_some parts fits)
array_fit rule n parts items (Some item) is e fits =
    Fit.is_array items item is e (sym (same_some (item_parts item items) parts fits))

object_fit : (rule : Rule) (n : Node) (parts : List ShapedNode) (ms : List Member) (b : Bool) → n ≡ node.Members ms →
    fits_object rule ms ≡ b → cond b (Some (member_parts rule.member ms)) None ≡ Some parts → Fit rule n parts
object_fit rule n parts ms false is e fits = absurd (not_some parts fits)
object_fit rule n parts ms true is e fits =
    Fit.is_object ms is e (sym (same_some (member_parts rule.member ms) parts fits))

fit_by : (rule : Rule) (n : Node) (parts : List ShapedNode) → Sort n → children_by rule (out-Node n) ≡ Some parts →
    Fit rule n parts
fit_by rule n parts (Sort.is_null is) e =
    alone_fit rule n parts scalar.Null rule.flat is refl (sym (ap (children_by rule) (ap out-Node is ∙ out_null)) ∙ e)
fit_by rule n parts (Sort.is_bool b is) e =
    alone_fit rule n parts (scalar.Bool b) rule.flat is refl
    (sym (ap (children_by rule) (ap out-Node is ∙ out_bool b)) ∙ e)
fit_by rule n parts (Sort.is_number units is) e =
    alone_fit rule n parts (scalar.Num units) (rule.number units) is refl
    (sym (ap (children_by rule) (ap out-Node is ∙ out_number units)) ∙ e)
fit_by rule n parts (Sort.is_text text is) e =
    alone_fit rule n parts (scalar.Text text) (rule.text text) is refl
    (sym (ap (children_by rule) (ap out-Node is ∙ out_text text)) ∙ e)
fit_by rule n parts (Sort.is_array items is) e =
    array_fit rule n parts items (rule.array items) is refl
    (sym (ap (children_by rule) (ap out-Node is ∙ out_items items)) ∙ e)
fit_by rule n parts (Sort.is_object ms is) e =
    object_fit rule n parts ms (fits_object rule ms) is refl
    (sym (ap (children_by rule) (ap out-Node is ∙ out_members ms)) ∙ e)

pub fit : (rule : Rule) (n : Node) (parts : List ShapedNode) → children_by rule (out-Node n) ≡ Some parts → Fit rule n parts
fit rule n parts e = fit_by rule n parts (sort n) e

-- ---- scalars, and arrays of them

-- a scalar that passes
pub record Alone (rule : Rule) (n : Node) : Type 0 where
  pub value : Scalar
  pub is : n ≡ scalar_node value
  pub passes : takes rule value ≡ true

alone_by : (flat : Bool) (number : ℤ → Bool) (text : List ℕ → Bool) (n : Node) (parts : List ShapedNode) →
    Fit (scalars flat number text) n parts → Alone (scalars flat number text) n
alone_by flat number text n parts (Fit.is_scalar s is passes none) = record { value = s; is = is; passes = passes }
alone_by flat number text n parts (Fit.is_array items item is e are) = absurd (not_some item e)
alone_by flat number text n parts (Fit.is_object ms is e are) = absurd cc

pub alone : (flat : Bool) (number : ℤ → Bool) (text : List ℕ → Bool) (n : Node) (parts : List ShapedNode) →
    children_by (scalars flat number text) (out-Node n) ≡ Some parts → Alone (scalars flat number text) n
alone flat number text n parts e = alone_by flat number text n parts (fit (scalars flat number text) n parts e)

-- an array with these parts
pub record Several (item : Shape) (n : Node) (parts : List ShapedNode) : Type 0 where
  pub items : List Node
  pub is : n ≡ node.Items items
  pub are : parts ≡ item_parts item items

several_by : (item : Shape) (flat : Bool) (number : ℤ → Bool) (text : List ℕ → Bool) (n : Node) (parts : List ShapedNode) →
    Fit (scalars_or item flat number text) n parts → Alone (scalars flat number text) n ⊎ Several item n parts
several_by item flat number text n parts (Fit.is_scalar s is passes none) =
    inl (record { value = s; is = is; passes = as_alone s passes })
  where
    as_alone : (s : Scalar) → takes (scalars_or item flat number text) s ≡ true →
        takes (scalars flat number text) s ≡ true
    as_alone scalar.Null e = e
    as_alone (scalar.Bool b) e = e
    as_alone (scalar.Num units) e = e
    as_alone (scalar.Text text) e = e
several_by item flat number text n parts (Fit.is_array items other is e are) = inr (record {
  items = items;
  is = is;
  are = are ∙ ap (λ (k : Shape). item_parts k items) (sym (same_some item other e));
})
several_by item flat number text n parts (Fit.is_object ms is e are) = absurd cc

pub several : (item : Shape) (flat : Bool) (number : ℤ → Bool) (text : List ℕ → Bool) (n : Node) (parts : List ShapedNode) →
    children_by (scalars_or item flat number text) (out-Node n) ≡ Some parts →
    Alone (scalars flat number text) n ⊎ Several item n parts
several item flat number text n parts e =
    several_by item flat number text n parts (fit (scalars_or item flat number text) n parts e)

-- ---- arrays

no_scalar : (array : List Node → Option Shape) (s : Scalar) → takes (arrays array) s ≡ true → ⊥
no_scalar array scalar.Null e = cc
no_scalar array (scalar.Bool b) e = cc
no_scalar array (scalar.Num units) e = cc
no_scalar array (scalar.Text text) e = cc

array_by : (array : List Node → Option Shape) (wanted : Shape) (n : Node) (parts : List ShapedNode) →
    ((items : List Node) (item : Shape) → array items ≡ Some item → item ≡ wanted) → Fit (arrays array) n parts →
    Several wanted n parts
array_by array wanted n parts only (Fit.is_scalar s is passes none) = absurd (no_scalar array s passes)
array_by array wanted n parts only (Fit.is_array items item is e are) = record {
  items = items;
  is = is;
  are = are ∙ ap (λ (k : Shape). item_parts k items) (only items item e);
}
array_by array wanted n parts only (Fit.is_object ms is e are) = absurd cc

pub array_of : (array : List Node → Option Shape) (wanted : Shape) (n : Node) (parts : List ShapedNode) →
    ((items : List Node) (item : Shape) → array items ≡ Some item → item ≡ wanted) →
    children_by (arrays array) (out-Node n) ≡ Some parts → Several wanted n parts
array_of array wanted n parts only e = array_by array wanted n parts only (fit (arrays array) n parts e)

-- ---- objects

-- an object that fits, with these parts
pub record Object (member : List ℕ → Option Shape) (members : List Member → Bool) (n : Node) (parts : List ShapedNode) :
    Type 0 where
  pub values : List Member
  pub is : n ≡ node.Members values
  pub complete : members values ≡ true
  pub known : list_all (λ m. is_some (member m.0)) values ≡ true
  pub are : parts ≡ member_parts member values

no_value : (member : List ℕ → Option Shape) (members : List Member → Bool) (s : Scalar) →
    takes (objects member members) s ≡ true → ⊥
no_value member members scalar.Null e = cc
no_value member members (scalar.Bool b) e = cc
no_value member members (scalar.Num units) e = cc
no_value member members (scalar.Text text) e = cc

object_by : (member : List ℕ → Option Shape) (members : List Member → Bool) (n : Node) (parts : List ShapedNode) →
    Fit (objects member members) n parts → Object member members n parts
object_by member members n parts (Fit.is_scalar s is passes none) = absurd (no_value member members s passes)
object_by member members n parts (Fit.is_array items item is e are) = absurd (not_some item e)
object_by member members n parts (Fit.is_object ms is e are) =
    let both = and_parts (members ms) (list_all (λ (m : Member). is_some (member m.0)) ms) e in
    record { values = ms; is = is; complete = both.0; known = both.1; are = are }

pub object_of : (member : List ℕ → Option Shape) (members : List Member → Bool) (n : Node) (parts : List ShapedNode) →
    children_by (objects member members) (out-Node n) ≡ Some parts → Object member members n parts
object_of member members n parts e = object_by member members n parts (fit (objects member members) n parts e)

-- ---- texts

-- a text that passes
text_by : (test : List ℕ → Bool) (n : Node) (s : Scalar) → n ≡ scalar_node s → takes (texts test) s ≡ true →
    (text : List ℕ) × (n ≡ node.Text text) × (test text ≡ true)
text_by test n scalar.Null is passes = absurd cc
text_by test n (scalar.Bool b) is passes = absurd cc
text_by test n (scalar.Num units) is passes = absurd cc
text_by test n (scalar.Text text) is passes = (text, is, passes)

pub text_alone : (test : List ℕ → Bool) (n : Node) → Alone (texts test) n →
    (text : List ℕ) × (n ≡ node.Text text) × (test text ≡ true)
text_alone test n a = text_by test n a.value a.is a.passes

-- ---- how many nodes

one_known : (asked : List ℕ → Option Shape) (m : Member) (ms : List Member) (o : Option Shape) → is_some o ≡ true →
    sum_by member_count ms ≡ sum_by part_count (member_parts asked ms) →
    sum_by member_count (m ∷ ms)
    ≡ sum_by part_count (option_to_list (option_map (λ (s : Shape). (s, m.1)) o) ++ member_parts asked ms)
one_known asked m ms None some more = absurd cc
one_known asked m ms (Some s) some more = omega (
  arith,
  more,
  sum_by-cons member_count m ms,
  sum_by-cons part_count (s, m.1) (member_parts asked ms),
)

known_count : (asked : List ℕ → Option Shape) (ms : List Member) → list_all (λ m. is_some (asked m.0)) ms ≡ true →
    sum_by member_count ms ≡ sum_by part_count (member_parts asked ms)
known_count asked [] all = refl
known_count asked (m ∷ ms) all =
    let both = and_parts (is_some (asked m.0)) (list_all (λ (k : Member). is_some (asked k.0)) ms) all in
    one_known asked m ms (asked m.0) both.0 (known_count asked ms both.1)

count_by : (rule : Rule) (n : Node) (parts : List ShapedNode) → Fit rule n parts → node_count n ≡ number_behind parts
count_by rule n parts (Fit.is_scalar s is passes none) =
    ap node_count is ∙ scalar_count s ∙ sym (ap number_behind none)
count_by rule n parts (Fit.is_array items item is e are) =
    ap node_count is ∙ count_items items ∙ ap (λ k. 1 + k) (sym (sum_items item items)) ∙ sym (ap number_behind are)
count_by rule n parts (Fit.is_object ms is e are) =
    let all = (and_parts (rule.members ms) (list_all (λ (m : Member). is_some (rule.member m.0)) ms) e).1 in
    ap node_count is ∙ count_members ms ∙ ap (λ k. 1 + k) (known_count rule.member ms all)
    ∙ sym (ap number_behind are)

-- a node that fits a shape holds itself and the nodes of its parts
pub count_of_parts : (wanted : Shape) (n : Node) (parts : List ShapedNode) → shaped_children wanted n ≡ Some parts →
    node_count n ≡ number_behind parts
count_of_parts wanted n parts fits = count_by (rule_of wanted) n parts (fit (rule_of wanted) n parts fits)
