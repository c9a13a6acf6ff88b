-- What an argument object without faults says, from what its values do.
use Rattle.std.proofs.Common.{◌≡◌, ℕ, Bool, List, Some, refl, sym, ap, subst, subst₂, ◌∙◌, ◌<◌, get_or, length, arith}
use Rattle.std.specs.Prelude.{codes}
use Rattle.doc_model.specs.declared.node.Node.{Node}
use Rattle.doc_model.specs.declared.node.Node.TheVariants as node
use Rattle.doc_model.specs.declared.query.Case.{Case}
use Rattle.doc_model.specs.declared.query.Compare.{Compare}
use Rattle.doc_model.specs.declared.query.Query.{Query}
use Rattle.doc_model.specs.declared.query.Query.TheVariants as query
use Rattle.doc_model.specs.declared.scalar.Scalar.{Scalar}
use Rattle.json_text.specs.Grammar.{Member}
use Rattle.cts_meaning.specs.Faults.{IsFaultless}
use Rattle.cts_meaning.specs.Saying.{case_of, value_of}
use Rattle.cts_meaning.specs.Shapes.{field_shape, fields_of, needs}
use Rattle.cts_meaning.specs.declared.form.QueryForm.{QueryForm}
use Rattle.cts_meaning.specs.declared.form.QueryForm.TheVariants as form
use Rattle.cts_meaning.specs.declared.shape.Shape.{Shape}
use Rattle.cts_meaning.specs.declared.shape.Shape.TheVariants as shape
use Rattle.cts_meaning.proofs.EachJudged.{argument_object}
use Rattle.cts_meaning.proofs.Members.{allowed, Argument, needed}
use Rattle.cts_meaning.proofs.Named.{same_some}
use Rattle.cts_meaning.proofs.Nodes.{members_in, members_in_object}
use Rattle.cts_text.specs.Saids.{AreSaidAt, IsSaidAs, IsSaidAt}
use Rattle.cts_text.specs.Values.{case_in, compare_in, distance_in, has_option, is_infinite, scalars_in, texts_in}
use Rattle.cts_text.proofs.Looked.{case_read, compare_read, distance_read, infinite_read, option_read, scalars_read, texts_read}

pub same_members : (ms others : List Member) → node.Members ms ≡ node.Members others → ms ≡ others
same_members ms others is = sym (members_in_object ms) ∙ ap members_in is ∙ members_in_object others

argument : (f : QueryForm) (ms : List Member) → IsFaultless (shape.Argument f) (node.Members ms) → Argument f ms
argument f ms clean =
    let a = argument_object f (node.Members ms) clean in
    subst (Argument f) (sym (same_members ms a.members a.is)) a.fits

-- the value of a member that is needed has no fault as its field's shape
needed_clean : (f : QueryForm) (ms : List Member) (name : List ℕ) (wanted : Shape) (k : ℕ) →
    field_shape (fields_of f) name ≡ Some wanted → k < length (fields_of f) →
    get_or (fields_of f) k (needs name wanted) ≡ needs name wanted →
    IsFaultless (shape.Argument f) (node.Members ms) → (n : Node) → value_of name ms ≡ Some n → IsFaultless wanted n
needed_clean f ms name wanted k e lt at_k clean n v =
    let value = needed f ms (argument f ms clean) name wanted k e lt at_k in
    subst (IsFaultless wanted) (same_some value.value n (sym value.found ∙ v)) value.clean

-- ---- queries in which there are others

pub and_said : (ms : List Member) (queries : List Query) → AreSaidAt (value_of (codes "queries") ms) queries →
    IsSaidAs form.And ms (query.And queries)
and_said ms queries are clean depth said (qs, at, is) =
    ap query.And (are (needed_clean form.And ms (codes "queries") shape.Queries 0 refl (omega arith) refl clean)
    depth qs at) ∙ sym is

pub or_said : (ms : List Member) (queries : List Query) → AreSaidAt (value_of (codes "queries") ms) queries →
    IsSaidAs form.Or ms (query.Or queries)
or_said ms queries are clean depth said (qs, at, is) =
    ap query.Or (are (needed_clean form.Or ms (codes "queries") shape.Queries 0 refl (omega arith) refl clean)
    depth qs at) ∙ sym is

pub not_said : (ms : List Member) (q : Query) → IsSaidAt (value_of (codes "query") ms) q →
    IsSaidAs form.Not ms (query.Not q)
not_said ms q by clean depth said (child, at, is) =
    ap query.Not (by (needed_clean form.Not ms (codes "query") shape.Query 0 refl (omega arith) refl clean)
    depth child at) ∙ sym is

pub and_not_said : (ms : List Member) (positive negative : Query) →
    IsSaidAt (value_of (codes "positiveQuery") ms) positive → IsSaidAt (value_of (codes "negativeQuery") ms) negative →
    IsSaidAs form.AndNot ms (query.AndNot positive negative)
and_not_said ms positive negative by also clean depth said (p, n, at, there, is) =
    let first = by (needed_clean form.AndNot ms (codes "positiveQuery") shape.Query 0 refl (omega arith) refl clean)
    depth p at in
    let second = also (needed_clean form.AndNot ms (codes "negativeQuery") shape.Query 1 refl (omega arith) refl clean)
    depth n there in
    ap (λ (q : Query). query.AndNot q negative) first ∙ ap (λ (q : Query). query.AndNot p q) second ∙ sym is

pub near_said : (ms : List Member) (queries : List Query) → AreSaidAt (value_of (codes "queries") ms) queries →
    IsSaidAs form.Near ms (query.Near queries (distance_in ms) (has_option ms (codes "ordered")))
near_said ms queries are clean depth said (qs, distance, given, at, far, o, is) =
    let children = are (needed_clean form.Near ms (codes "queries") shape.Queries 0 refl (omega arith) refl clean)
    depth qs at in
    let same = distance_read ms distance
    (allowed form.Near ms (argument form.Near ms clean) (codes "distance") shape.Distance refl) far in
    let ordered = option_read ms (codes "ordered") given o in
    ap (λ (x : List Query). query.Near x (distance_in ms) (has_option ms (codes "ordered"))) children
    ∙ ap (λ (x : ℕ). query.Near qs x (has_option ms (codes "ordered"))) same
    ∙ ap (λ (x : Bool). query.Near qs distance x) ordered ∙ sym is

-- ---- others

pub true_said : (ms : List Member) → IsSaidAs form.True ms query.True
true_said ms clean depth said is = sym is

pub false_said : (ms : List Member) → IsSaidAs form.False ms query.False
false_said ms clean depth said is = sym is

pub word_said : (ms : List Member) → IsSaidAs form.Word ms (query.Word (texts_in ms (codes "text")) (case_in ms))
word_said ms clean depth said (texts, given, a, o, is) =
    ap (λ (x : List (List ℕ)). query.Word x (case_in ms)) (texts_read ms (codes "text") texts a)
    ∙ ap (λ (x : Case). query.Word texts x) (case_read ms given o) ∙ sym is

pub prop_word_said : (ms : List Member) →
    IsSaidAs form.PropWord ms
    (query.PropWord (texts_in ms (codes "property")) (texts_in ms (codes "text")) (case_in ms))
prop_word_said ms clean depth said (names, texts, given, n, a, o, is) =
    ap (λ (x : List (List ℕ)). query.PropWord x (texts_in ms (codes "text")) (case_in ms))
    (texts_read ms (codes "property") names n)
    ∙ ap (λ (x : List (List ℕ)). query.PropWord names x (case_in ms)) (texts_read ms (codes "text") texts a)
    ∙ ap (λ (x : Case). query.PropWord names texts x) (case_read ms given o) ∙ sym is

pub prop_value_said : (ms : List Member) →
    IsSaidAs form.PropValue ms
    (query.PropValue (texts_in ms (codes "property")) (scalars_in ms (codes "value")) (case_in ms)
    (has_option ms (codes "exact")))
prop_value_said ms clean depth said (names, values, given, n, a, o, is) =
    let exact : Bool = has_option ms (codes "exact") in
    ap (λ (x : List (List ℕ)). query.PropValue x (scalars_in ms (codes "value")) (case_in ms) exact)
    (texts_read ms (codes "property") names n)
    ∙ ap (λ (x : List Scalar). query.PropValue names x (case_in ms) exact) (scalars_read ms (codes "value") values a)
    ∙ ap (λ (x : Case). query.PropValue names values x exact) (case_read ms given o)
    ∙ ap (λ (x : Bool). query.PropValue names values (case_of given) x) (option_read ms (codes "exact") given o)
    ∙ sym is

pub range_said : (ms : List Member) →
    IsSaidAs form.Range ms
    (query.Range (texts_in ms (codes "property")) (compare_in ms) (scalars_in ms (codes "value")))
range_said ms clean depth said (names, op, values, n, c, a, is) =
    ap (λ (x : List (List ℕ)). query.Range x (compare_in ms) (scalars_in ms (codes "value")))
    (texts_read ms (codes "property") names n)
    ∙ ap (λ (x : Compare). query.Range names x (scalars_in ms (codes "value"))) (compare_read ms op c)
    ∙ ap (λ (x : List Scalar). query.Range names op x) (scalars_read ms (codes "value") values a) ∙ sym is

pub collection_said : (ms : List Member) → IsSaidAs form.Collection ms (query.Collection (texts_in ms (codes "uris")))
collection_said ms clean depth said (uris, a, is) = ap query.Collection (texts_read ms (codes "uris") uris a) ∙ sym is

pub doc_uri_said : (ms : List Member) → IsSaidAs form.DocUri ms (query.DocUri (texts_in ms (codes "uris")))
doc_uri_said ms clean depth said (uris, a, is) = ap query.DocUri (texts_read ms (codes "uris") uris a) ∙ sym is

pub directory_said : (ms : List Member) →
    IsSaidAs form.Directory ms (query.Directory (texts_in ms (codes "uris")) (is_infinite ms))
directory_said ms clean depth said (uris, infinite, a, d, is) =
    ap (λ (x : List (List ℕ)). query.Directory x (is_infinite ms)) (texts_read ms (codes "uris") uris a)
    ∙ ap (λ (x : Bool). query.Directory uris x) (infinite_read ms infinite d) ∙ sym is

-- ---- the same with values that are as told

pub prop_word_with : (ms : List Member) (names texts : List (List ℕ)) (c : Case) →
    names ≡ texts_in ms (codes "property") →
    texts ≡ texts_in ms (codes "text") → c ≡ case_in ms → IsSaidAs form.PropWord ms (query.PropWord names texts c)
prop_word_with ms names texts c n t k =
    subst (λ (x : List (List ℕ)). IsSaidAs form.PropWord ms (query.PropWord x texts c)) (sym n)
    (subst₂ (λ (x : List (List ℕ)) (y : Case). IsSaidAs form.PropWord ms
    (query.PropWord (texts_in ms (codes "property")) x y)) (sym t) (sym k) (prop_word_said ms))

pub prop_value_with : (ms : List Member) (names : List (List ℕ)) (values : List Scalar) (c : Case) (exact : Bool) →
    names ≡ texts_in ms (codes "property") → values ≡ scalars_in ms (codes "value") → c ≡ case_in ms →
    exact ≡ has_option ms (codes "exact") → IsSaidAs form.PropValue ms (query.PropValue names values c exact)
prop_value_with ms names values c exact n v k e =
    subst₂ (λ (x : List (List ℕ)) (y : List Scalar). IsSaidAs form.PropValue ms (query.PropValue x y c exact)) (sym n)
    (sym v) (subst₂ (λ (x : Case) (y : Bool). IsSaidAs form.PropValue ms
    (query.PropValue (texts_in ms (codes "property")) (scalars_in ms (codes "value")) x y)) (sym k) (sym e)
    (prop_value_said ms))

pub range_with : (ms : List Member) (names : List (List ℕ)) (op : Compare) (values : List Scalar) →
    names ≡ texts_in ms (codes "property") → op ≡ compare_in ms → values ≡ scalars_in ms (codes "value") →
    IsSaidAs form.Range ms (query.Range names op values)
range_with ms names op values n o v =
    subst (λ (x : List (List ℕ)). IsSaidAs form.Range ms (query.Range x op values)) (sym n)
    (subst₂ (λ (x : Compare) (y : List Scalar). IsSaidAs form.Range ms
    (query.Range (texts_in ms (codes "property")) x y)) (sym o) (sym v) (range_said ms))

pub collection_with : (ms : List Member) (uris : List (List ℕ)) → uris ≡ texts_in ms (codes "uris") →
    IsSaidAs form.Collection ms (query.Collection uris)
collection_with ms uris u = subst (λ (x : List (List ℕ)). IsSaidAs form.Collection ms (query.Collection x)) (sym u)
    (collection_said ms)

pub doc_uri_with : (ms : List Member) (uris : List (List ℕ)) → uris ≡ texts_in ms (codes "uris") →
    IsSaidAs form.DocUri ms (query.DocUri uris)
doc_uri_with ms uris u = subst (λ (x : List (List ℕ)). IsSaidAs form.DocUri ms (query.DocUri x)) (sym u)
    (doc_uri_said ms)

pub near_with : (ms : List Member) (queries : List Query) (distance : ℕ) (ordered : Bool) →
    AreSaidAt (value_of (codes "queries") ms) queries → distance ≡ distance_in ms →
    ordered ≡ has_option ms (codes "ordered") → IsSaidAs form.Near ms (query.Near queries distance ordered)
near_with ms queries distance ordered are d o =
    subst₂ (λ (x : ℕ) (y : Bool). IsSaidAs form.Near ms (query.Near queries x y)) (sym d) (sym o)
    (near_said ms queries are)
