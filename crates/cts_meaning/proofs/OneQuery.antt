-- A tree says one query at most.
use Rattle.std.proofs.Common.{◌≡◌, ℕ, zero, suc, Bool, List, [], ◌∷◌, Option, Some, refl, sym, ap, subst, ◌∙◌}
use Rattle.std.specs.Prelude.{codes}
use Rattle.doc_model.specs.Tree.{is_among}
use Rattle.doc_model.specs.declared.node.Node.{Node}
use Rattle.doc_model.specs.declared.node.Node.TheVariants as node
use Rattle.doc_model.specs.declared.query.Compare.{Compare}
use Rattle.doc_model.specs.declared.query.Query.{Query}
use Rattle.doc_model.specs.declared.query.Query.TheVariants as query
use Rattle.doc_model.specs.declared.scalar.Scalar.{Scalar}
use Rattle.json_text.specs.Grammar.{Each, Member}
use Rattle.cts_meaning.specs.Laws.{OneQueryIsSaid}
use Rattle.cts_meaning.specs.Saying.{AreChildren, IsChild, Says, SaysAs, case_of, value_of}
use Rattle.cts_meaning.specs.Shapes.{form_name}
use Rattle.cts_meaning.specs.declared.form.QueryForm.{QueryForm}
use Rattle.cts_meaning.specs.declared.form.QueryForm.TheVariants as form
use Rattle.cts_meaning.proofs.Named.{same_form, same_some}
use Rattle.cts_meaning.proofs.Nodes.{items_in, items_in_array, members_in, members_in_object}
use Rattle.cts_meaning.proofs.Values.{one_compare, one_depth, one_distance, one_options, one_scalars, one_texts}

-- what a query says, by what is said of those in it
abbrev pub SaysOver : (Node → Query → Type 0) → Node → Query → Type 0
SaysOver IsSaid n q =
    (f : QueryForm) × (members : List Member)
    × (n ≡ node.Members ((form_name f, node.Members members) ∷ [])) × SaysAs IsSaid f members q

abbrev first_name : List Member → List ℕ
first_name [] = []
first_name (m ∷ ms) = m.0

abbrev first_value : List Member → Node
first_value [] = node.Null
first_value (m ∷ ms) = m.1

module _ (A B : Node → Query → Type 0) (one : (n : Node) (q r : Query) → A n q → B n r → q ≡ r) where
  one_child : (found : Option Node) (q r : Query) → IsChild A found q → IsChild B found r → q ≡ r
  one_child found q r (n, is, said) (m, also, told) =
      one n q r said (subst (λ (k : Node). B k r) (same_some m n (sym also ∙ is)) told)

  each_one : (items : List Node) (qs rs : List Query) → Each A items qs → Each B items rs → qs ≡ rs
  each_one [] [] [] said told = refl
  each_one [] [] (r ∷ rs) said told = absurd told
  each_one [] (q ∷ qs) rs said told = absurd said
  each_one (i ∷ items) [] rs said told = absurd said
  each_one (i ∷ items) (q ∷ qs) [] said told = absurd told
  each_one (i ∷ items) (q ∷ qs) (r ∷ rs) said told =
      ap (λ (x : Query). x ∷ qs) (one i q r said.0 told.0)
      ∙ ap (λ (xs : List Query). r ∷ xs) (each_one items qs rs said.1 told.1)

  same_items : (found : Option Node) (items others : List Node) → found ≡ Some (node.Items items) →
      found ≡ Some (node.Items others) → items ≡ others
  same_items found items others is also =
      sym (items_in_array items) ∙ ap items_in (same_some (node.Items items) (node.Items others) (sym is ∙ also))
      ∙ items_in_array others

  one_children : (found : Option Node) (qs rs : List Query) → AreChildren A found qs → AreChildren B found rs → qs ≡ rs
  one_children found qs rs (items, is, said) (others, also, told) =
      each_one items qs rs said
      (subst (λ (xs : List Node). Each B xs rs) (same_items found others items also is) told)

  one_as : (f : QueryForm) (members : List Member) (q r : Query) → SaysAs A f members q → SaysAs B f members r → q ≡ r
  one_as form.True members q r is also = is ∙ sym also
  one_as form.False members q r is also = is ∙ sym also
  one_as form.And members q r (qs, a, is) (rs, b, also) =
      is ∙ ap query.And (one_children (value_of (codes "queries") members) qs rs a b) ∙ sym also
  one_as form.Or members q r (qs, a, is) (rs, b, also) =
      is ∙ ap query.Or (one_children (value_of (codes "queries") members) qs rs a b) ∙ sym also
  one_as form.Not members q r (c, a, is) (d, b, also) =
      is ∙ ap query.Not (one_child (value_of (codes "query") members) c d a b) ∙ sym also
  one_as form.AndNot members q r (c, e, a, m, is) (d, f, b, n, also) =
      let positive = one_child (value_of (codes "positiveQuery") members) c d a b in
      let negative = one_child (value_of (codes "negativeQuery") members) e f m n in
      is ∙ ap (λ (x : Query). query.AndNot x e) positive ∙ ap (λ (x : Query). query.AndNot d x) negative ∙ sym also
  one_as form.Word members q r (texts, given, a, o, is) (others, also_given, b, p, also) =
      let same = one_texts (value_of (codes "text") members) texts others a b in
      let options = one_options (value_of (codes "options") members) given also_given o p in
      is ∙ ap (λ (x : List (List ℕ)). query.Word x (case_of given)) same
      ∙ ap (λ (x : List (List ℕ)). query.Word others (case_of x)) options ∙ sym also
  one_as form.PropWord members q r (names, texts, given, n, a, o, is) (also_names, others, also_given, m, b, p, also) =
      let named = one_texts (value_of (codes "property") members) names also_names n m in
      let same = one_texts (value_of (codes "text") members) texts others a b in
      let options = one_options (value_of (codes "options") members) given also_given o p in
      is ∙ ap (λ (x : List (List ℕ)). query.PropWord x texts (case_of given)) named
      ∙ ap (λ (x : List (List ℕ)). query.PropWord also_names x (case_of given)) same
      ∙ ap (λ (x : List (List ℕ)). query.PropWord also_names others (case_of x)) options ∙ sym also
  one_as form.PropValue members q r (names, values, given, n, a, o, is) (ns, others, also_given, m, b, p, also) =
      let named = one_texts (value_of (codes "property") members) names ns n m in
      let same = one_scalars (value_of (codes "value") members) values others a b in
      let options = one_options (value_of (codes "options") members) given also_given o p in
      is ∙ ap (λ (x : List (List ℕ)). query.PropValue x values (case_of given) (is_among given (codes "exact"))) named
      ∙ ap (λ (x : List Scalar). query.PropValue ns x (case_of given) (is_among given (codes "exact"))) same
      ∙ ap (λ (x : List (List ℕ)). query.PropValue ns others (case_of x) (is_among x (codes "exact"))) options
      ∙ sym also
  one_as form.Range members q r (names, op, values, n, c, a, is) (also_names, sign, others, m, d, b, also) =
      let named = one_texts (value_of (codes "property") members) names also_names n m in
      let compared = one_compare (value_of (codes "operator") members) op sign c d in
      let same = one_scalars (value_of (codes "value") members) values others a b in
      is ∙ ap (λ (x : List (List ℕ)). query.Range x op values) named
      ∙ ap (λ (x : Compare). query.Range also_names x values) compared
      ∙ ap (λ (x : List Scalar). query.Range also_names sign x) same ∙ sym also
  one_as form.Near members q r (qs, distance, given, a, d, o, is) (rs, far, also_given, b, e, p, also) =
      let children = one_children (value_of (codes "queries") members) qs rs a b in
      let same = one_distance (value_of (codes "distance") members) distance far d e in
      let options = one_options (value_of (codes "options") members) given also_given o p in
      is ∙ ap (λ (x : List Query). query.Near x distance (is_among given (codes "ordered"))) children
      ∙ ap (λ (x : ℕ). query.Near rs x (is_among given (codes "ordered"))) same
      ∙ ap (λ (x : List (List ℕ)). query.Near rs far (is_among x (codes "ordered"))) options ∙ sym also
  one_as form.Collection members q r (uris, a, is) (others, b, also) =
      is ∙ ap query.Collection (one_texts (value_of (codes "uris") members) uris others a b) ∙ sym also
  one_as form.DocUri members q r (uris, a, is) (others, b, also) =
      is ∙ ap query.DocUri (one_texts (value_of (codes "uris") members) uris others a b) ∙ sym also
  one_as form.Directory members q r (uris, infinite, a, d, is) (others, far, b, e, also) =
      let same = one_texts (value_of (codes "uris") members) uris others a b in
      let depth = one_depth (value_of (codes "depth") members) infinite far d e in
      is ∙ ap (λ (x : List (List ℕ)). query.Directory x infinite) same
      ∙ ap (λ (x : Bool). query.Directory others x) depth ∙ sym also

  one_over : (n : Node) (q r : Query) → SaysOver A n q → SaysOver B n r → q ≡ r
  one_over n q r (f, members, is, said) (g, others, also, told) =
      let object : List Member = (form_name f, node.Members members) ∷ [] in
      let other : List Member = (form_name g, node.Members others) ∷ [] in
      let whole = sym (members_in_object object) ∙ ap members_in (sym is ∙ also) ∙ members_in_object other in
      let forms = same_form f g (ap first_name whole) in
      let argument =
      sym (members_in_object members) ∙ ap members_in (ap first_value whole) ∙ members_in_object others in
      one_as f members q r said (subst (λ (h : QueryForm). SaysAs B h members r) (sym forms)
      (subst (λ (ms : List Member). SaysAs B g ms r) (sym argument) told))

one_said : (depth also_depth : ℕ) (n : Node) (q r : Query) → Says depth n q → Says also_depth n r → q ≡ r
unfolding Says
one_said zero also_depth n q r said told = absurd said
one_said (suc depth) zero n q r said told = absurd told
one_said (suc depth) (suc also_depth) n q r said told =
    one_over (Says depth) (Says also_depth) (one_said depth also_depth) n q r said told

pub one_query_is_said : OneQueryIsSaid
one_query_is_said n q r is also = one_said is.depth also.depth n q r is.says also.says
