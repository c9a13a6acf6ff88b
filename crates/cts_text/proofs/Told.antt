-- What a tree without faults says, from what it holds.
use Rattle.std.proofs.Common.{◌≡◌, ℕ, zero, suc, List, [], ◌∷◌, Option, Some, None, refl, sym, ap, subst, ◌∙◌, ◌<◌, ◌≤◌, get_or, length, Result, Ok, Err, IfOk, arith}
use Rattle.doc_model.specs.declared.node.Node.{Node}
use Rattle.doc_model.specs.declared.node.Node.TheVariants as node
use Rattle.doc_model.specs.declared.node.Node.TheViews.{out-Node}
use Rattle.doc_model.specs.declared.query.Query.{Query}
use Rattle.json_text.specs.Grammar.{Each, Member}
use Rattle.cts_meaning.specs.Faults.{IsFaultless}
use Rattle.cts_meaning.specs.Saying.{Says, SaysAs}
use Rattle.cts_meaning.specs.Shapes.{form_name, form_named, item_parts, children_by, rule_of}
use Rattle.cts_meaning.specs.declared.form.QueryForm.{QueryForm}
use Rattle.cts_meaning.specs.declared.shape.Shape.TheVariants as shape
use Rattle.cts_meaning.proofs.Entries.{clean_argument}
use Rattle.cts_meaning.proofs.Least.{parts_faultless}
use Rattle.cts_meaning.proofs.Named.{form_of_name, same_some}
use Rattle.cts_meaning.proofs.Nodes.{items_in, items_in_array, out_items}
use Rattle.cts_text.specs.Saids.{AreSaid, AreSaidAt, IsSaid, IsSaidAt, IsSaidBy}
use Rattle.cts_text.proofs.Said.{same_members}

-- ---- objects

first_same : (m k : Member) → m ∷ [] ≡ k ∷ [] → m ≡ k
first_same m k e = cc

as_of : (f g : QueryForm) (args : List Member) (r said : Query) (depth : ℕ) → f ≡ g → IsSaidBy f (node.Members args) r →
    IsFaultless (shape.Argument g) (node.Members args) → SaysAs (Says depth) g args said → r ≡ said
as_of f g args r said depth same by clean says =
    by args refl (subst (λ (h : QueryForm). IsFaultless (shape.Argument h) (node.Members args)) (sym same) clean)
    depth said (subst (λ (h : QueryForm). SaysAs (Says depth) h args said) (sym same) says)

-- an object of one member, whose name is a form's
pub object_said : (ms : List Member) (m : Member) (f : QueryForm) (r : Query) → ms ≡ m ∷ [] →
    form_named m.0 ≡ Some f → IsSaidBy f m.1 r → IsSaid (node.Members ms) r
unfolding Says
object_said ms m f r one named by clean zero said says = absurd says
object_said ms m f r one named by clean (suc depth) said (g, args, is, says) =
    let argument : Node = node.Members args in
    let first = first_same m (form_name g, argument) (sym one ∙ same_members ms ((form_name g, argument) ∷ []) is) in
    let form = same_some f g (sym named ∙ ap (λ (k : Member). form_named k.0) first ∙ form_of_name g) in
    let inner = clean_argument g argument (subst (IsFaultless shape.Query) is clean) in
    as_of f g args r said depth form (subst (λ (n : Node). IsSaidBy f n r) (ap (λ (k : Member). k.1) first) by)
    inner says

-- no query
pub unnamed_said : (ms : List Member) (m : Member) (r : Query) → ms ≡ m ∷ [] → form_named m.0 ≡ None →
    IsSaid (node.Members ms) r
unfolding Says
unnamed_said ms m r one named clean zero said says = absurd says
unnamed_said ms m r one named clean (suc depth) said (g, args, is, says) =
    let first = first_same m (form_name g, node.Members args)
    (sym one ∙ same_members ms ((form_name g, node.Members args) ∷ []) is) in
    let none : None ≡ Some g = sym named ∙ ap (λ (k : Member). form_named k.0) first ∙ form_of_name g in
    absurd cc

pub other_length_said : (ms : List Member) (r : Query) → (length ms ≡ 1 → ⊥) → IsSaid (node.Members ms) r
unfolding Says
other_length_said ms r more clean zero said says = absurd says
other_length_said ms r more clean (suc depth) said (g, args, is, says) =
    absurd (more (ap (λ (k : List Member). length k) (same_members ms ((form_name g, node.Members args) ∷ []) is)))

pub other_said : (n : Node) (r : Query) → ((ms : List Member) → n ≡ node.Members ms → ⊥) → IsSaid n r
unfolding Says
other_said n r differs clean zero said says = absurd says
other_said n r differs clean (suc depth) said (g, args, is, says) =
    absurd (differs ((form_name g, node.Members args) ∷ []) is)

-- ---- values

pub child_said : (found : Option Node) (n : Node) (r : Query) → found ≡ Some n → IsSaid n r → IsSaidAt found r
child_said found n r e said clean depth q (m, is, says) =
    said (clean n e) depth q (subst (λ (k : Node). Says depth k q) (same_some m n (sym is ∙ e)) says)

pub no_child_said : (found : Option Node) (r : Query) → found ≡ None → IsSaidAt found r
no_child_said found r e clean depth q (m, is, says) = let none : None ≡ Some m = sym e ∙ is in absurd cc

pub no_children_said : (found : Option Node) (r : List Query) → found ≡ None → AreSaidAt found r
no_children_said found r e clean depth qs (items, is, says) =
    let none : None ≡ Some (node.Items items) = sym e ∙ is in absurd cc

pub array_said : (n : Node) (items : List Node) (r : List Query) → n ≡ node.Items items → AreSaid items r →
    AreSaidAt (Some n) r
array_said n items r is are clean depth qs (others, at, says) =
    let inner = parts_faultless shape.Queries n (item_parts shape.Query items)
    (ap (children_by (rule_of shape.Queries)) (ap out-Node is ∙ out_items items)) (clean n refl) in
    let same = sym (items_in_array items) ∙ ap items_in (sym is ∙ same_some n (node.Items others) at)
    ∙ items_in_array others in
    are inner depth qs (subst (λ (ns : List Node). Each (Says depth) ns qs) (sym same) says)

pub no_array_said : (n : Node) (r : List Query) → ((items : List Node) → n ≡ node.Items items → ⊥) →
    AreSaidAt (Some n) r
no_array_said n r differs clean depth qs (items, is, says) = absurd (differs items (same_some n (node.Items items) is))

-- ---- lists

pub none_said : AreSaid [] []
none_said clean depth [] says = refl
none_said clean depth (q ∷ qs) says = absurd says

pub cons_said : (n : Node) (items : List Node) (q : Query) (qs : List Query) → IsSaid n q → AreSaid items qs →
    AreSaid (n ∷ items) (q ∷ qs)
cons_said n items q qs said are clean depth [] says = absurd says
cons_said n items q qs said are clean depth (r ∷ rs) says =
    ap (λ (x : Query). x ∷ qs) (said clean.0 depth r says.0)
    ∙ ap (λ (xs : List Query). r ∷ xs) (are clean.1 depth rs says.1)

-- ---- a list of one, and what holds of an answer

pub one_member : (ms slice : List Member) (m : Member) → slice ≡ ms → 1 ≤ length slice → length slice < 2 →
    m ≡ get_or slice 0 m → ms ≡ m ∷ []
one_member ms [] m same least most is = absurd (omega (arith, least))
one_member ms (x ∷ []) m same least most is = sym same ∙ ap (λ (k : Member). k ∷ []) (sym is)
one_member ms (x ∷ y ∷ slice) m same least most is = absurd (omega (arith, most))

pub ok_more : {X E : Type 0} (answer : Result X E) (P Q : X → Type 0) → ((x : X) → P x → Q x) → IfOk answer P →
    IfOk answer Q
ok_more (Ok x) P Q more p = more x p
ok_more (Err e) P Q more p = tt
