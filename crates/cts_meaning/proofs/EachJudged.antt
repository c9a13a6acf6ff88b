-- A tree is a query, or has a first fault.
use Rattle.std.proofs.Common.{◌≡◌, ℕ, zero, suc, ◌≤◌, ◌⊎◌, ◌==◌, inl, inr, true, List, [], ◌∷◌, length, Option, Some, None, is_some, refl, ap, subst, ◌∙◌, arith, eqb-true}
use Rattle.std.proofs.lemmas.Bool.{and_parts}
use Rattle.std.specs.List.{list_all}
use Rattle.std.specs.Option.{option_map}
use Rattle.doc_model.specs.declared.node.Node.{Node}
use Rattle.doc_model.specs.declared.node.Node.TheVariants as node
use Rattle.doc_model.specs.declared.query.Query.{Query}
use Rattle.json_text.specs.Grammar.{Member}
use Rattle.cts_meaning.specs.Faults.{AreFaultless, IsFaultless, IsQueryFault, node_count}
use Rattle.cts_meaning.specs.Laws.{EachTreeIsJudged}
use Rattle.cts_meaning.specs.Saying.{IsQuery, Says}
use Rattle.cts_meaning.specs.Shapes.{field_shape, fields_of, form_name, form_named, is_given, member_parts}
use Rattle.cts_meaning.specs.declared.form.QueryForm.{QueryForm}
use Rattle.cts_meaning.specs.declared.shape.Shape.{Shape}
use Rattle.cts_meaning.specs.declared.shape.Shape.TheVariants as shape
use Rattle.cts_meaning.proofs.Counts.{count_members, count_some}
use Rattle.cts_meaning.proofs.Entries.{form_part}
use Rattle.cts_meaning.proofs.Judging.{Judged, clean_node, judged}
use Rattle.cts_meaning.proofs.Members.{Argument}
use Rattle.cts_meaning.proofs.Named.{form_is}
use Rattle.cts_meaning.proofs.OneQuery.{SaysOver}
use Rattle.cts_meaning.proofs.Parts.{object_of}
use Rattle.cts_meaning.proofs.SaidForms.{said_as}

abbrev query_member : List ℕ → Option Shape
query_member name = option_map (λ f. shape.Argument f) (form_named name)

-- an object of one member, whose name is a form's
record OfForm (n : Node) : Type 0 where
  form : QueryForm
  argument : Node
  is : n ≡ node.Members ((form_name form, argument) ∷ [])
  clean : IsFaultless (shape.Argument form) argument

form_by : (n : Node) (m : Member) (o : Option QueryForm) → n ≡ node.Members (m ∷ []) → form_named m.0 ≡ o →
    is_some (option_map (λ f. shape.Argument f) o) ≡ true → AreFaultless (form_part m.1 o) → OfForm n
form_by n m None is e some clean = absurd cc
form_by n m (Some f) is e some clean = record {
  form = f;
  argument = m.1;
  is = is ∙ ap (λ (name : List ℕ). node.Members ((name, m.1) ∷ [])) (form_is m.0 f e);
  clean = clean.0;
}

one_of : (n : Node) (ms : List Member) → n ≡ node.Members ms → (length ms == 1) ≡ true →
    list_all (λ m. is_some (query_member m.0)) ms ≡ true → AreFaultless (member_parts query_member ms) → OfForm n
one_of n [] is one known clean = absurd cc
one_of n (m ∷ []) is one known clean =
    form_by n m (form_named m.0) is refl (and_parts (is_some (query_member m.0)) true known).0 clean
one_of n (m ∷ k ∷ ms) is one known clean = absurd (omega (arith, eqb-true (length (m ∷ k ∷ ms)) 1 one))

query_object_of : (n : Node) → IsFaultless shape.Query n → OfForm n
query_object_of n clean =
    let c = clean_node shape.Query n clean in
    let object = object_of query_member (λ members. length members == 1) n c.parts c.fits in
    one_of n object.values object.is object.complete object.known (subst AreFaultless object.are c.clean)

-- the members of an argument object that fits
pub record OfMembers (f : QueryForm) (n : Node) : Type 0 where
  pub members : List Member
  pub is : n ≡ node.Members members
  pub fits : Argument f members

pub argument_object : (f : QueryForm) (n : Node) → IsFaultless (shape.Argument f) n → OfMembers f n
argument_object f n clean =
    let c = clean_node (shape.Argument f) n clean in
    let object = object_of (field_shape (fields_of f)) (λ members. list_all (is_given members) (fields_of f)) n
    c.parts c.fits in
    record {
      members = object.values;
      is = object.is;
      fits = record { given = object.complete; clean = subst AreFaultless object.are c.clean };
    }

said_over : (IsSaid : Node → Query → Type 0) (room : ℕ) →
    ((n : Node) → node_count n ≤ room → IsFaultless shape.Query n → (q : Query) × IsSaid n q) → (n : Node) →
    node_count n ≤ suc room → IsFaultless shape.Query n → (q : Query) × SaysOver IsSaid n q
said_over IsSaid room say n le clean =
    let q = query_object_of n clean in
    let a = argument_object q.form q.argument q.clean in
    let outer = ap node_count q.is ∙ count_members ((form_name q.form, q.argument) ∷ []) in
    let inner = ap node_count a.is ∙ count_members a.members in
    let said = said_as IsSaid room say q.form a.members (omega (arith, le, outer, inner)) a.fits in (
      said.0,
      (
        q.form,
        a.members,
        q.is ∙ ap (λ (m : Node). node.Members ((form_name q.form, m) ∷ [])) a.is,
        said.1,
      ),
    )

-- a tree of at most so many nodes that has no faults says a query
said_within : (room : ℕ) (n : Node) → node_count n ≤ room → IsFaultless shape.Query n → (q : Query) × Says room n q
unfolding Says
said_within zero n le clean = absurd (omega (arith, le, count_some n))
said_within (suc room) n le clean = said_over (Says room) room (said_within room) n le clean

judged_by : (n : Node) → Judged shape.Query n → ((q : Query) × IsQuery n q) ⊎ ((number : ℕ) × IsQueryFault n number)
judged_by n (inl clean) =
    let said = said_within (node_count n) n (omega arith) clean in
    inl (said.0, record { faultless = clean; depth = node_count n; says = said.1 })
judged_by n (inr fault) = inr fault

pub each_tree_is_judged : EachTreeIsJudged
each_tree_is_judged n = judged_by n (judged shape.Query n)
