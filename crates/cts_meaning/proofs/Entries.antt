-- A query object whose members have no fault.
use Rattle.std.proofs.Common.{◌≡◌, ℕ, suc, Bool, true, cond, ◌&&◌, List, [], ◌∷◌, ◌++◌, Option, Some, None, is_some, refl, sym, ap, subst, ◌∙◌}
use Rattle.std.proofs.lemmas.Bool.{and_from}
use Rattle.std.specs.List.{list_all}
use Rattle.std.specs.Option.{option_map, option_to_list}
use Rattle.doc_model.specs.Tree.{has_distinct_names, is_distinct}
use Rattle.doc_model.specs.declared.node.Node.{Node}
use Rattle.doc_model.specs.declared.node.Node.TheVariants as node
use Rattle.doc_model.specs.declared.query.Query.{Query}
use Rattle.json_text.specs.Grammar.{Member}
use Rattle.cts_meaning.specs.Canonical.{query_object}
use Rattle.cts_meaning.specs.Faults.{AreFaultless, IsFaultless}
use Rattle.cts_meaning.specs.Saying.{Says, SaysAs}
use Rattle.cts_meaning.specs.Shapes.{Field, ShapedNode, field_shape, fields_of, form_name, is_given, member_parts, children_by, shaped_children, rule_of}
use Rattle.cts_meaning.specs.declared.form.QueryForm.{QueryForm}
use Rattle.cts_meaning.specs.declared.shape.Shape.{Shape}
use Rattle.cts_meaning.specs.declared.shape.Shape.TheVariants as shape
use Rattle.cts_meaning.proofs.Least.{faultless_of, parts_faultless}
use Rattle.cts_meaning.proofs.Named.{form_of_name}
use Rattle.cts_meaning.proofs.Names.{member_names, names_members}
use Rattle.cts_meaning.proofs.Nodes.{out_members}

-- a member without a fault
pub record Entry (fields : List Field) (m : Member) : Type 0 where
  pub wanted : Shape
  pub found : field_shape fields m.0 ≡ Some wanted
  pub clean : IsFaultless wanted m.1
  pub names : has_distinct_names m.1 ≡ true

abbrev pub Entries : List Field → List Member → Type 0
Entries fields [] = Unit {0}
Entries fields (m ∷ ms) = Entry fields m × Entries fields ms

entries_known : (fields : List Field) (members : List Member) → Entries fields members →
    list_all (λ m. is_some (field_shape fields m.0)) members ≡ true
entries_known fields [] entries = refl
entries_known fields (m ∷ ms) entries =
    and_from (is_some (field_shape fields m.0)) (list_all (λ k. is_some (field_shape fields k.0)) ms)
    (ap (λ (o : Option Shape). is_some o) entries.0.found) (entries_known fields ms entries.1)

entries_clean : (fields : List Field) (members : List Member) → Entries fields members →
    AreFaultless (member_parts (field_shape fields) members)
entries_clean fields [] entries = tt
entries_clean fields (m ∷ ms) entries =
    subst (λ (o : Option Shape). AreFaultless (option_to_list (option_map (λ (s : Shape). (s, m.1)) o)
    ++ member_parts (field_shape fields) ms)) (sym entries.0.found)
    (entries.0.clean, entries_clean fields ms entries.1)

entries_names : (fields : List Field) (members : List Member) → Entries fields members →
    list_all (λ m. has_distinct_names m.1) members ≡ true
entries_names fields [] entries = refl
entries_names fields (m ∷ ms) entries =
    and_from (has_distinct_names m.1) (list_all (λ k. has_distinct_names k.1) ms) entries.0.names
    (entries_names fields ms entries.1)

-- a node without a fault that says the query, and in which names are distinct
pub record IsSound (depth : ℕ) (n : Node) (q : Query) : Type 0 where
  pub clean : IsFaultless shape.Query n
  pub says : Says depth n q
  pub names : has_distinct_names n ≡ true

says_over : (depth : ℕ) (f : QueryForm) (members : List Member) (q : Query) → SaysAs (Says depth) f members q →
    Says (suc depth) (query_object f members) q
unfolding Says
says_over depth f members q says = (f, members, refl, says)

argument_clean : (f : QueryForm) (members : List Member) → Entries (fields_of f) members →
    list_all (is_given members) (fields_of f) ≡ true → IsFaultless (shape.Argument f) (node.Members members)
argument_clean f members entries given =
    let parts = member_parts (field_shape (fields_of f)) members in
    let fits = and_from (list_all (is_given members) (fields_of f))
    (list_all (λ m. is_some (field_shape (fields_of f) m.0)) members) given
    (entries_known (fields_of f) members entries) in
    faultless_of (shape.Argument f) (node.Members members) parts
    (ap (children_by (rule_of (shape.Argument f))) (out_members members)
    ∙ ap (λ (b : Bool). cond b (Some parts) None) fits)
    (entries_clean (fields_of f) members entries)

abbrev pub form_part : Node → Option QueryForm → List ShapedNode
form_part argument o =
    option_to_list (option_map (λ (s : Shape). (s, argument)) (option_map (λ f. shape.Argument f) o)) ++ []

abbrev form_parts : Node → Option QueryForm → Option (List ShapedNode)
form_parts argument o =
    cond (is_some (option_map (λ f. shape.Argument f) o) && true) (Some (form_part argument o)) None

query_fits : (f : QueryForm) (argument : Node) →
    shaped_children shape.Query (node.Members ((form_name f, argument) ∷ [])) ≡ Some ((shape.Argument f, argument) ∷ [])
query_fits f argument =
    ap (children_by (rule_of shape.Query)) (out_members ((form_name f, argument) ∷ []))
    ∙ ap (form_parts argument) (form_of_name f)

query_clean : (f : QueryForm) (argument : Node) → IsFaultless (shape.Argument f) argument →
    IsFaultless shape.Query (node.Members ((form_name f, argument) ∷ []))
query_clean f argument clean =
    faultless_of shape.Query (node.Members ((form_name f, argument) ∷ [])) ((shape.Argument f, argument) ∷ [])
    (query_fits f argument) (clean, tt)

-- the argument of a query without faults has none
pub clean_argument : (f : QueryForm) (argument : Node) →
    IsFaultless shape.Query (node.Members ((form_name f, argument) ∷ [])) → IsFaultless (shape.Argument f) argument
clean_argument f argument clean =
    (parts_faultless shape.Query (node.Members ((form_name f, argument) ∷ [])) ((shape.Argument f, argument) ∷ [])
    (query_fits f argument) clean).0

object_names : (name : List ℕ) (members : List Member) → is_distinct (member_names members) ≡ true →
    list_all (λ m. has_distinct_names m.1) members ≡ true →
    has_distinct_names (node.Members ((name, node.Members members) ∷ [])) ≡ true
object_names name members distinct all =
    let inner = names_members members
    ∙ and_from (is_distinct (member_names members)) (list_all (λ m. has_distinct_names m.1) members) distinct all in
    names_members ((name, node.Members members) ∷ [])
    ∙ and_from true (has_distinct_names (node.Members members) && true) refl
    (and_from (has_distinct_names (node.Members members)) true inner refl)

-- a query object of such members is sound
pub sound_of : (depth : ℕ) (f : QueryForm) (members : List Member) (q : Query) → Entries (fields_of f) members →
    list_all (is_given members) (fields_of f) ≡ true → is_distinct (member_names members) ≡ true →
    SaysAs (Says depth) f members q → IsSound (suc depth) (query_object f members) q
sound_of depth f members q entries given distinct says = record {
  clean = query_clean f (node.Members members) (argument_clean f members entries given);
  says = says_over depth f members q says;
  names = object_names (form_name f) members distinct (entries_names (fields_of f) members entries);
}
