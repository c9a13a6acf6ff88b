-- The members of an argument object without faults, by their names.
use Rattle.std.proofs.Common.{◌≡◌, ℕ, ◌<◌, ◌≤◌, ◌⊎◌, inl, inr, ⊎_elim, Bool, true, false, ◌||◌, cond, List, [], ◌∷◌, ◌++◌, map, length, get_or, sum_by, Option, Some, None, refl, sym, ap, subst, ◌∙◌, true≢false, arith}
use Rattle.std.proofs.lemmas.Bool.{or_cases}
use Rattle.std.proofs.lemmas.List.Sums.{AllPass-from_list_all, sum_by-cons}
use Rattle.std.proofs.lemmas.Slice.Eq.{bytes_eq-Decides}
use Rattle.std.specs.List.{find, list_all}
use Rattle.std.specs.Option.{option_map, option_to_list}
use Rattle.std.specs.Str.{bytes_eq}
use Rattle.doc_model.specs.Tree.{is_among}
use Rattle.doc_model.specs.declared.node.Node.{Node}
use Rattle.json_text.specs.Grammar.{Member}
use Rattle.cts_meaning.specs.Faults.{AreFaultless, IsFaultless, node_count}
use Rattle.cts_meaning.specs.Saying.{value_of}
use Rattle.cts_meaning.specs.Shapes.{Field, ShapedNode, field_shape, fields_of, is_given, member_parts, needs}
use Rattle.cts_meaning.specs.declared.form.QueryForm.{QueryForm}
use Rattle.cts_meaning.specs.declared.shape.Shape.{Shape}
use Rattle.cts_meaning.proofs.Counts.{member_count}
use Rattle.cts_meaning.proofs.Named.{not_some, same_some}

-- ---- the first member of a name

abbrev value_by : Bool → Member → Option Member → Option Node
value_by b m later = option_map (λ k. k.1) (cond b (Some m) later)

abbrev later_of : List ℕ → List Member → Option Member
later_of name ms = find (λ k. bytes_eq k.0 name) ms

cases_by : (name : List ℕ) (m : Member) (ms : List Member) (n : Node) (b : Bool) → bytes_eq m.0 name ≡ b →
    value_by b m (later_of name ms) ≡ Some n → ((m.0 ≡ name) × (m.1 ≡ n)) ⊎ (value_of name ms ≡ Some n)
cases_by name m ms n true e v = inl ((bytes_eq-Decides m.0 name).0 e, same_some m.1 n v)
cases_by name m ms n false e v = inr v

-- it is the first of some members, or of those behind it
value_cases : (name : List ℕ) (m : Member) (ms : List Member) (n : Node) → value_of name (m ∷ ms) ≡ Some n →
    ((m.0 ≡ name) × (m.1 ≡ n)) ⊎ (value_of name ms ≡ Some n)
value_cases name m ms n v = cases_by name m ms n (bytes_eq m.0 name) refl v

pub value_within : (name : List ℕ) (members : List Member) (n : Node) → value_of name members ≡ Some n →
    node_count n ≤ sum_by member_count members
value_within name [] n v = absurd (not_some n v)
value_within name (m ∷ ms) n v =
    let sum = sum_by-cons member_count m ms in
    ⊎_elim (λ here. let same = ap node_count here.1 in omega (arith, same, sum))
    (λ later. let less = value_within name ms n later in omega (arith, less, sum)) (value_cases name m ms n v)

-- ---- of an object without faults

abbrev asked_parts : Option Shape → Member → List ShapedNode → List ShapedNode
asked_parts o m rest = option_to_list (option_map (λ (s : Shape). (s, m.1)) o) ++ rest

here_clean : (o : Option Shape) (m : Member) (rest : List ShapedNode) (wanted : Shape) → o ≡ Some wanted →
    AreFaultless (asked_parts o m rest) → IsFaultless wanted m.1
here_clean None m rest wanted e clean = absurd (not_some wanted e)
here_clean (Some s) m rest wanted e clean =
    subst (λ (k : Shape). IsFaultless k m.1) (same_some s wanted e) clean.0

rest_clean : (o : Option Shape) (m : Member) (rest : List ShapedNode) → AreFaultless (asked_parts o m rest) →
    AreFaultless rest
rest_clean None m rest clean = clean
rest_clean (Some s) m rest clean = clean.1

-- the value of a member whose name asks a shape has no fault as this shape
value_clean : (asked : List ℕ → Option Shape) (members : List Member) → AreFaultless (member_parts asked members) →
    (name : List ℕ) (wanted : Shape) → asked name ≡ Some wanted → (n : Node) → value_of name members ≡ Some n →
    IsFaultless wanted n
value_clean asked [] clean name wanted e n v = absurd (not_some n v)
value_clean asked (m ∷ ms) clean name wanted e n v = ⊎_elim
    (λ here. subst (λ (k : Node). IsFaultless wanted k) here.1
    (here_clean (asked m.0) m (member_parts asked ms) wanted (ap asked here.0 ∙ e) clean))
    (λ later. value_clean asked ms (rest_clean (asked m.0) m (member_parts asked ms) clean) name wanted e n later)
    (value_cases name m ms n v)

-- ---- a name that is there

abbrev HasValue : List ℕ → List Member → Type 0
HasValue name members = (n : Node) × (value_of name members ≡ Some n)

given_by : (name : List ℕ) (m : Member) (ms : List Member) (b : Bool) → bytes_eq m.0 name ≡ b →
    (bytes_eq name m.0 || is_among (map (λ k. k.0) ms) name) ≡ true →
    (is_among (map (λ k. k.0) ms) name ≡ true → HasValue name ms) →
    HasValue name (m ∷ ms)
given_by name m ms true e is more =
    (m.1, ap (λ (c : Bool). value_by c m (later_of name ms)) e)
given_by name m ms false e is more = ⊎_elim
    (λ here. let same = (bytes_eq-Decides m.0 name).1 (sym ((bytes_eq-Decides name m.0).0 here)) in
    absurd (true≢false (sym same ∙ e)))
    (λ later. let value = more later in (value.0, ap (λ (c : Bool). value_by c m (later_of name ms)) e ∙ value.1))
    (or_cases (bytes_eq name m.0) (is_among (map (λ k. k.0) ms) name) is)

-- a name among those of the members has a value
pub value_given : (name : List ℕ) (members : List Member) → is_among (map (λ m. m.0) members) name ≡ true →
    HasValue name members
value_given name [] is = absurd (true≢false (sym is))
value_given name (m ∷ ms) is = given_by name m ms (bytes_eq m.0 name) refl is (value_given name ms)

-- ---- argument objects

-- the members of a form's argument object that fits and in which there is no fault
pub record Argument (f : QueryForm) (members : List Member) : Type 0 where
  pub given : list_all (is_given members) (fields_of f) ≡ true
  pub clean : AreFaultless (member_parts (field_shape (fields_of f)) members)

-- a value without faults
pub record ValueAs (wanted : Shape) (name : List ℕ) (members : List Member) : Type 0 where
  pub value : Node
  pub found : value_of name members ≡ Some value
  pub clean : IsFaultless wanted value

-- a member that may be left out
pub allowed : (f : QueryForm) (members : List Member) → Argument f members → (name : List ℕ) (wanted : Shape) →
    field_shape (fields_of f) name ≡ Some wanted → (n : Node) → value_of name members ≡ Some n →
    IsFaultless wanted n
allowed f members a name wanted e n v =
    value_clean (field_shape (fields_of f)) members a.clean name wanted e n v

-- a member that is needed
pub needed : (f : QueryForm) (members : List Member) → Argument f members → (name : List ℕ) (wanted : Shape) (k : ℕ) →
    field_shape (fields_of f) name ≡ Some wanted → k < length (fields_of f) →
    get_or (fields_of f) k (needs name wanted) ≡ needs name wanted → ValueAs wanted name members
needed f members a name wanted k e lt at_k =
    let all = AllPass-from_list_all (is_given members) (fields_of f) a.given in
    let given = subst (λ (g : Field). is_given members g ≡ true) at_k (all k (needs name wanted) lt) in
    let value = value_given name members given in
    record { value = value.0; found = value.1; clean = allowed f members a name wanted e value.0 value.1 }
