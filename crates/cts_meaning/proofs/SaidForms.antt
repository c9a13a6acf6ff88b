-- An argument object without faults says a query, where each query in it does.
use Rattle.std.proofs.Common.{◌≡◌, ℕ, ◌≤◌, List, [], ◌∷◌, sum_by, Some, refl, sym, ap, subst, ◌∙◌, arith}
use Rattle.std.proofs.lemmas.List.Sums.{sum_by-cons}
use Rattle.std.specs.Prelude.{codes}
use Rattle.doc_model.specs.Tree.{is_among}
use Rattle.doc_model.specs.declared.node.Node.{Node}
use Rattle.doc_model.specs.declared.query.Query.{Query}
use Rattle.doc_model.specs.declared.query.Query.TheVariants as query
use Rattle.json_text.specs.Grammar.{Each, Member}
use Rattle.cts_meaning.specs.Faults.{AreFaultless, IsFaultless, node_count}
use Rattle.cts_meaning.specs.Saying.{AreChildren, AreOptions, IsChild, SaysAs, case_of, value_of}
use Rattle.cts_meaning.specs.Shapes.{field_shape, fields_of, item_parts}
use Rattle.cts_meaning.specs.declared.form.QueryForm.{QueryForm}
use Rattle.cts_meaning.specs.declared.form.QueryForm.TheVariants as form
use Rattle.cts_meaning.specs.declared.shape.OptionKind.{OptionKind}
use Rattle.cts_meaning.specs.declared.shape.OptionKind.TheVariants as options
use Rattle.cts_meaning.specs.declared.shape.Shape.TheVariants as shape
use Rattle.cts_meaning.proofs.Counts.{count_items, member_count}
use Rattle.cts_meaning.proofs.Judging.{clean_node}
use Rattle.cts_meaning.proofs.Members.{Argument, ValueAs, allowed, needed, value_within}
use Rattle.cts_meaning.proofs.Named.{same_some}
use Rattle.cts_meaning.proofs.Parts.{array_of}
use Rattle.cts_meaning.proofs.SaidValues.{compare_at, comparables_at, depth_by, distance_by, options_by, scalars_at, texts_at}

abbrev OptionsAt : List Member → Type 0
OptionsAt members = (given : List (List ℕ)) × AreOptions (value_of (codes "options") members) given

options_at : (f : QueryForm) (members : List Member) → Argument f members → (kind : OptionKind) →
    field_shape (fields_of f) (codes "options") ≡ Some (shape.Options kind) →
    OptionsAt members
options_at f members a kind e =
    options_by kind (value_of (codes "options") members)
    (allowed f members a (codes "options") (shape.Options kind) e)

module _ (IsSaid : Node → Query → Type 0) (room : ℕ)
    (say : (n : Node) → node_count n ≤ room → IsFaultless shape.Query n → (q : Query) × IsSaid n q) where
  each_said : (items : List Node) → sum_by node_count items ≤ room → AreFaultless (item_parts shape.Query items) →
      (queries : List Query) × Each IsSaid items queries
  each_said [] le clean = ([], tt)
  each_said (i ∷ items) le clean =
      let sum = sum_by-cons node_count i items in
      let first = say i (omega (arith, le, sum)) clean.0 in
      let more = each_said items (omega (arith, le, sum)) clean.1 in
      (first.0 ∷ more.0, (first.1, more.1))

  abbrev Children : List Member → Type 0
  Children members = (queries : List Query) × AreChildren IsSaid (value_of (codes "queries") members) queries

  children_at : (members : List Member) → sum_by member_count members ≤ room →
      ValueAs shape.Queries (codes "queries") members → Children members
  children_at members le v =
      let c = clean_node shape.Queries v.value v.clean in
      let array = array_of (λ items. Some shape.Query) shape.Query v.value c.parts
      (λ items item e. sym (same_some shape.Query item e)) c.fits in
      let within = value_within (codes "queries") members v.value v.found in
      let count = ap node_count array.is ∙ count_items array.items in
      let each = each_said array.items (omega (arith, le, within, count)) (subst AreFaultless array.are c.clean) in
      (each.0, (array.items, v.found ∙ ap (λ (n : Node). Some n) array.is, each.1))

  abbrev Child : List ℕ → List Member → Type 0
  Child name members = (q : Query) × IsChild IsSaid (value_of name members) q

  child_at : (name : List ℕ) (members : List Member) → sum_by member_count members ≤ room →
      ValueAs shape.Query name members → Child name members
  child_at name members le v =
      let within = value_within name members v.value v.found in
      let said = say v.value (omega (arith, le, within)) v.clean in
      (said.0, (v.value, v.found, said.1))

  abbrev pub Said : QueryForm → List Member → Type 0
  Said f members = (q : Query) × SaysAs IsSaid f members q

  pub said_as : (f : QueryForm) (members : List Member) → sum_by member_count members ≤ room → Argument f members →
      Said f members
  said_as form.True members le a = (query.True, refl)
  said_as form.False members le a = (query.False, refl)
  said_as form.And members le a =
      let queries = children_at members le
      (needed form.And members a (codes "queries") shape.Queries 0 refl (omega arith) refl) in
      (query.And queries.0, (queries.0, queries.1, refl))
  said_as form.Or members le a =
      let queries = children_at members le
      (needed form.Or members a (codes "queries") shape.Queries 0 refl (omega arith) refl) in
      (query.Or queries.0, (queries.0, queries.1, refl))
  said_as form.Not members le a =
      let child = child_at (codes "query") members le
      (needed form.Not members a (codes "query") shape.Query 0 refl (omega arith) refl) in
      (query.Not child.0, (child.0, child.1, refl))
  said_as form.AndNot members le a =
      let positive = child_at (codes "positiveQuery") members le
      (needed form.AndNot members a (codes "positiveQuery") shape.Query 0 refl (omega arith) refl) in
      let negative = child_at (codes "negativeQuery") members le
      (needed form.AndNot members a (codes "negativeQuery") shape.Query 1 refl (omega arith) refl) in
      (query.AndNot positive.0 negative.0, (positive.0, negative.0, positive.1, negative.1, refl))
  said_as form.Word members le a =
      let texts = texts_at (codes "text") members
      (needed form.Word members a (codes "text") shape.Texts 0 refl (omega arith) refl) in
      let given = options_at form.Word members a options.Word refl in
      (query.Word texts.0 (case_of given.0), (texts.0, given.0, texts.1, given.1, refl))
  said_as form.PropWord members le a =
      let names = texts_at (codes "property") members
      (needed form.PropWord members a (codes "property") shape.Texts 0 refl (omega arith) refl) in
      let texts = texts_at (codes "text") members
      (needed form.PropWord members a (codes "text") shape.Texts 1 refl (omega arith) refl) in
      let given = options_at form.PropWord members a options.Word refl in (
        query.PropWord names.0 texts.0 (case_of given.0),
        (names.0, texts.0, given.0, names.1, texts.1, given.1, refl),
      )
  said_as form.PropValue members le a =
      let names = texts_at (codes "property") members
      (needed form.PropValue members a (codes "property") shape.Texts 0 refl (omega arith) refl) in
      let values = scalars_at (codes "value") members
      (needed form.PropValue members a (codes "value") shape.Scalars 1 refl (omega arith) refl) in
      let given = options_at form.PropValue members a options.Value refl in (
        query.PropValue names.0 values.0 (case_of given.0) (is_among given.0 (codes "exact")),
        (names.0, values.0, given.0, names.1, values.1, given.1, refl),
      )
  said_as form.Range members le a =
      let names = texts_at (codes "property") members
      (needed form.Range members a (codes "property") shape.Texts 0 refl (omega arith) refl) in
      let op = compare_at (codes "operator") members
      (needed form.Range members a (codes "operator") shape.Compare 1 refl (omega arith) refl) in
      let values = comparables_at (codes "value") members
      (needed form.Range members a (codes "value") shape.Comparables 2 refl (omega arith) refl) in
      (query.Range names.0 op.0 values.0, (names.0, op.0, values.0, names.1, op.1, values.1, refl))
  said_as form.Near members le a =
      let queries = children_at members le
      (needed form.Near members a (codes "queries") shape.Queries 0 refl (omega arith) refl) in
      let distance = distance_by (value_of (codes "distance") members)
      (allowed form.Near members a (codes "distance") shape.Distance refl) in
      let given = options_at form.Near members a options.Near refl in (
        query.Near queries.0 distance.0 (is_among given.0 (codes "ordered")),
        (queries.0, distance.0, given.0, queries.1, distance.1, given.1, refl),
      )
  said_as form.Collection members le a =
      let uris = texts_at (codes "uris") members
      (needed form.Collection members a (codes "uris") shape.Texts 0 refl (omega arith) refl) in
      (query.Collection uris.0, (uris.0, uris.1, refl))
  said_as form.DocUri members le a =
      let uris = texts_at (codes "uris") members
      (needed form.DocUri members a (codes "uris") shape.Texts 0 refl (omega arith) refl) in
      (query.DocUri uris.0, (uris.0, uris.1, refl))
  said_as form.Directory members le a =
      let uris = texts_at (codes "uris") members
      (needed form.Directory members a (codes "uris") shape.Texts 0 refl (omega arith) refl) in
      let depth = depth_by (value_of (codes "depth") members)
      (allowed form.Directory members a (codes "depth") shape.Depth refl) in
      (query.Directory uris.0 depth.0, (uris.0, depth.0, uris.1, depth.1, refl))
