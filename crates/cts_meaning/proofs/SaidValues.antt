-- What the values of an argument object without faults hold.
use Rattle.std.proofs.Common.{◌≡◌, ℕ, ℤ, ◌≤◌, ◌⊎◌, ◌||◌, inl, inr, ⊎_elim, Bool, true, false, cond, List, [], ◌∷◌, map, Option, Some, None, is_some, refl, sym, ap, subst, ◌∙◌}
use Rattle.std.proofs.lemmas.Bool.{or_cases}
use Rattle.std.proofs.lemmas.Slice.Eq.{bytes_eq-Decides}
use Rattle.std.specs.Prelude.{codes}
use Rattle.std.specs.Str.{bytes_eq}
use Rattle.doc_model.specs.declared.node.Node.{Node}
use Rattle.doc_model.specs.declared.node.Node.TheVariants as node
use Rattle.doc_model.specs.declared.node.Node.TheViews.{out-Node}
use Rattle.doc_model.specs.declared.query.Compare.{Compare}
use Rattle.doc_model.specs.declared.scalar.Scalar.{Scalar}
use Rattle.doc_model.specs.declared.scalar.Scalar.TheVariants as scalar
use Rattle.json_text.specs.Grammar.{Member}
use Rattle.cts_meaning.specs.Faults.{AreFaultless, IsFaultless}
use Rattle.cts_meaning.specs.Saying.{AreOptions, AreScalars, AreTexts, AreValuesOf, IsCompare, IsDepth, IsDistance, value_of}
use Rattle.cts_meaning.specs.Shapes.{ShapedNode, compare_named, compare_text, greatest_distance, has_rivals, is_option, item_parts, children_by, rule_of, scalar_node, texts, whole, whole_within}
use Rattle.cts_meaning.specs.declared.shape.OptionKind.{OptionKind}
use Rattle.cts_meaning.specs.declared.shape.Shape.{Shape}
use Rattle.cts_meaning.specs.declared.shape.Shape.TheVariants as shape
use Rattle.cts_meaning.proofs.Judging.{clean_node}
use Rattle.cts_meaning.proofs.Members.{ValueAs}
use Rattle.cts_meaning.proofs.Named.{compare_is, not_some, same_some}
use Rattle.cts_meaning.proofs.Parts.{Several, alone, array_of, several, takes, text_alone}
use Rattle.cts_meaning.proofs.Wholes.{whole_is}

-- ---- values

module _ {A : Type 0} (spelled : A → Node) (item : Shape)
    (read : (n : Node) → IsFaultless item n → (a : A) × (n ≡ spelled a)) where
  all_read : (items : List Node) → AreFaultless (item_parts item items) →
      (values : List A) × (items ≡ map spelled values)
  all_read [] clean = ([], refl)
  all_read (i ∷ items) clean =
      let first = read i clean.0 in
      let more = all_read items clean.1 in (
        first.0 ∷ more.0,
        ap (λ (n : Node). n ∷ items) first.1 ∙ ap (λ (ns : List Node). spelled first.0 ∷ ns) more.1,
      )

  array_read : (n : Node) (parts : List ShapedNode) → Several item n parts → AreFaultless parts →
      (values : List A) × (n ≡ node.Items (map spelled values))
  array_read n parts array clean =
      let all = all_read array.items (subst AreFaultless array.are clean) in
      (all.0, array.is ∙ ap node.Items all.1)

  -- one value alone, or an array of them
  some_read : (n : Node) (parts : List ShapedNode) → ((a : A) × (n ≡ spelled a)) ⊎ Several item n parts →
      AreFaultless parts → (values : List A) × AreValuesOf spelled (Some n) values
  some_read n parts (inl (a, is)) clean = (a ∷ [], inl (a, ap (λ (m : Node). Some m) is, refl))
  some_read n parts (inr array) clean =
      let all = array_read n parts array clean in (all.0, inr (ap (λ (m : Node). Some m) all.1))

-- a text that passes a test is one
text_of : (test : List ℕ → Bool) (n : Node) (parts : List ShapedNode) → children_by (texts test) (out-Node n) ≡ Some parts →
    (text : List ℕ) × (n ≡ node.Text text) × (test text ≡ true)
text_of test n parts fits =
    text_alone test n (alone false (λ units. false) test n parts fits)

text_read : (n : Node) → IsFaultless shape.Text n → (text : List ℕ) × (n ≡ node.Text text)
text_read n clean =
    let c = clean_node shape.Text n clean in
    let found = text_of (λ text. true) n c.parts c.fits in (found.0, found.1)

some_texts : (n : Node) → IsFaultless shape.Texts n → (texts : List (List ℕ)) × AreTexts (Some n) texts
some_texts n clean =
    let c = clean_node shape.Texts n clean in
    some_read node.Text shape.Text text_read n c.parts
    (⊎_elim (λ one. let text = text_alone (λ text. true) n one in inl (text.0, text.1)) (λ array. inr array)
    (several shape.Text false (λ units. false) (λ text. true) n c.parts c.fits)) c.clean

scalar_read : (n : Node) → IsFaultless shape.Scalar n → (s : Scalar) × (n ≡ scalar_node s)
scalar_read n clean =
    let c = clean_node shape.Scalar n clean in
    let one = alone true (λ units. true) (λ text. true) n c.parts c.fits in (one.value, one.is)

comparable_read : (n : Node) → IsFaultless shape.Comparable n → (s : Scalar) × (n ≡ scalar_node s)
comparable_read n clean =
    let c = clean_node shape.Comparable n clean in
    let one = alone false (λ units. true) (λ text. true) n c.parts c.fits in (one.value, one.is)

some_scalars : (n : Node) → IsFaultless shape.Scalars n → (values : List Scalar) × AreScalars (Some n) values
some_scalars n clean =
    let c = clean_node shape.Scalars n clean in
    some_read scalar_node shape.Scalar scalar_read n c.parts
    (⊎_elim (λ one. inl (one.value, one.is)) (λ array. inr array)
    (several shape.Scalar true (λ units. true) (λ text. true) n c.parts c.fits)) c.clean

some_comparables : (n : Node) → IsFaultless shape.Comparables n → (values : List Scalar) × AreScalars (Some n) values
some_comparables n clean =
    let c = clean_node shape.Comparables n clean in
    some_read scalar_node shape.Comparable comparable_read n c.parts
    (⊎_elim (λ one. inl (one.value, one.is)) (λ array. inr array)
    (several shape.Comparable false (λ units. true) (λ text. true) n c.parts c.fits)) c.clean

option_read : (kind : OptionKind) (n : Node) → IsFaultless (shape.Option kind) n →
    (text : List ℕ) × (n ≡ node.Text text)
option_read kind n clean =
    let c = clean_node (shape.Option kind) n clean in
    let found = text_of (is_option kind) n c.parts c.fits in (found.0, found.1)

-- ---- members, by what they say

only_option : (kind : OptionKind) (item : Shape) (b : Bool) → cond b None (Some (shape.Option kind)) ≡ Some item →
    item ≡ shape.Option kind
only_option kind item true e = absurd (not_some item e)
only_option kind item false e = sym (same_some (shape.Option kind) item e)

pub options_by : (kind : OptionKind) (found : Option Node) →
    ((n : Node) → found ≡ Some n → IsFaultless (shape.Options kind) n) →
    (given : List (List ℕ)) × AreOptions found given
options_by kind None clean = ([], refl)
options_by kind (Some n) clean =
    let c = clean_node (shape.Options kind) n (clean n refl) in
    array_read node.Text (shape.Option kind) (option_read kind) n c.parts
    (array_of (λ items. cond (has_rivals items) None (Some (shape.Option kind))) (shape.Option kind) n c.parts
    (λ items item e. only_option kind item (has_rivals items) e) c.fits) c.clean

-- a number of units that is a distance is a whole number
units_by : (n : Node) (units : ℤ) (o : Option ℕ) → n ≡ node.Num units → whole_within greatest_distance units ≡ o →
    is_some o ≡ true → (k : ℕ) × (k ≤ greatest_distance) × (n ≡ whole k)
units_by n units None is e some = absurd cc
units_by n units (Some k) is e some =
    let found = whole_is greatest_distance units k e in (k, found.0, is ∙ ap node.Num found.1)

whole_by : (n : Node) (s : Scalar) → n ≡ scalar_node s → takes (rule_of shape.Distance) s ≡ true →
    (k : ℕ) × (k ≤ greatest_distance) × (n ≡ whole k)
whole_by n scalar.Null is passes = absurd cc
whole_by n (scalar.Bool b) is passes = absurd cc
whole_by n (scalar.Num units) is passes = units_by n units (whole_within greatest_distance units) is refl passes
whole_by n (scalar.Text text) is passes = absurd cc

pub distance_read : (n : Node) → IsFaultless shape.Distance n → (k : ℕ) × (k ≤ greatest_distance) × (n ≡ whole k)
distance_read n clean =
    let c = clean_node shape.Distance n clean in
    let one = alone false (λ units. is_some (whole_within greatest_distance units)) (λ text. false) n c.parts c.fits in
    whole_by n one.value one.is one.passes

pub distance_by : (found : Option Node) → ((n : Node) → found ≡ Some n → IsFaultless shape.Distance n) →
    (distance : ℕ) × IsDistance found distance
distance_by None clean = (10, refl)
distance_by (Some n) clean = let c = distance_read n (clean n refl) in (c.0, c.2)

pub depth_by : (found : Option Node) → ((n : Node) → found ≡ Some n → IsFaultless shape.Depth n) →
    (far : Bool) × IsDepth found far
depth_by None clean = (false, refl)
depth_by (Some n) clean =
    let c = clean_node shape.Depth n (clean n refl) in
    let found = text_of (λ text. bytes_eq text (codes "1") || bytes_eq text (codes "infinity")) n c.parts c.fits in
    ⊎_elim
    (λ one. (false, found.1 ∙ ap node.Text ((bytes_eq-Decides found.0 (codes "1")).0 one)))
    (λ far. (true, found.1 ∙ ap node.Text ((bytes_eq-Decides found.0 (codes "infinity")).0 far)))
    (or_cases (bytes_eq found.0 (codes "1")) (bytes_eq found.0 (codes "infinity")) found.2)

abbrev pub TextsAt : List ℕ → List Member → Type 0
TextsAt name members = (texts : List (List ℕ)) × AreTexts (value_of name members) texts

abbrev pub ScalarsAt : List ℕ → List Member → Type 0
ScalarsAt name members = (values : List Scalar) × AreScalars (value_of name members) values

pub texts_at : (name : List ℕ) (members : List Member) → ValueAs shape.Texts name members → TextsAt name members
texts_at name members v =
    let some = some_texts v.value v.clean in
    (some.0, subst (λ (o : Option Node). AreTexts o some.0) (sym v.found) some.1)

pub scalars_at : (name : List ℕ) (members : List Member) → ValueAs shape.Scalars name members → ScalarsAt name members
scalars_at name members v =
    let some = some_scalars v.value v.clean in
    (some.0, subst (λ (o : Option Node). AreScalars o some.0) (sym v.found) some.1)

pub comparables_at : (name : List ℕ) (members : List Member) → ValueAs shape.Comparables name members →
    ScalarsAt name members
comparables_at name members v =
    let some = some_comparables v.value v.clean in
    (some.0, subst (λ (o : Option Node). AreScalars o some.0) (sym v.found) some.1)

sign_by : (n : Node) (text : List ℕ) (o : Option Compare) → n ≡ node.Text text → compare_named text ≡ o →
    is_some o ≡ true → (op : Compare) × (n ≡ node.Text (compare_text op))
sign_by n text None is e some = absurd cc
sign_by n text (Some op) is e some = (op, is ∙ ap node.Text (compare_is text op e))

pub compare_at : (name : List ℕ) (members : List Member) → ValueAs shape.Compare name members →
    (op : Compare) × IsCompare (value_of name members) op
compare_at name members v =
    let c = clean_node shape.Compare v.value v.clean in
    let found = text_of (λ text. is_some (compare_named text)) v.value c.parts c.fits in
    let sign = sign_by v.value found.0 (compare_named found.0) found.1 refl found.2 in
    (sign.0, v.found ∙ ap (λ (m : Node). Some m) sign.1)
