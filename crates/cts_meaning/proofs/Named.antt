-- Forms and signs of comparison by their names, of which no two are alike.
use Rattle.std.proofs.Common.{◌≡◌, ℕ, Bool, true, false, cond, List, [], ◌∷◌, Option, Some, None, unwrap_or, refl, sym, ap, ◌∙◌}
use Rattle.std.proofs.lemmas.Slice.Eq.{bytes_eq-Decides}
use Rattle.std.specs.List.{find}
use Rattle.std.specs.Str.{bytes_eq}
use Rattle.doc_model.specs.declared.query.Compare.{Compare}
use Rattle.doc_model.specs.declared.query.Compare.TheVariants.{Lt, Le, Gt, Ge, Eq, Ne}
use Rattle.cts_meaning.specs.Shapes.{compare_named, compare_text, compares, form_name, form_named, forms}
use Rattle.cts_meaning.specs.declared.form.QueryForm.{QueryForm}
use Rattle.cts_meaning.specs.declared.form.QueryForm.TheVariants as form

pub same_some : {X : Type 0} (x y : X) → Some x ≡ Some y → x ≡ y
same_some {X = X} x y e = ap (λ (o : Option X). unwrap_or o x) e

pub not_some : {X : Type 0} (x : X) → None ≡ Some x → ⊥
not_some x e = cc

passes_by : {X : Type 0} (test : X → Bool) (y x : X) (rest : Option X) (b : Bool) → test y ≡ b →
    cond b (Some y) rest ≡ Some x → (rest ≡ Some x → test x ≡ true) → test x ≡ true
passes_by test y x rest true is e more = ap test (sym (same_some y x e)) ∙ is
passes_by test y x rest false is e more = more e

-- what is found passes the test
pub find_passes : {X : Type 0} (test : X → Bool) (xs : List X) (x : X) → find test xs ≡ Some x → test x ≡ true
find_passes test [] x e = absurd (not_some x e)
find_passes test (y ∷ ys) x e = passes_by test y x (find test ys) (test y) refl e (find_passes test ys x)

-- ---- forms

pub form_of_name : (f : QueryForm) → form_named (form_name f) ≡ Some f
form_of_name form.True = refl
form_of_name form.False = refl
form_of_name form.And = refl
form_of_name form.Or = refl
form_of_name form.Not = refl
form_of_name form.AndNot = refl
form_of_name form.Word = refl
form_of_name form.PropWord = refl
form_of_name form.PropValue = refl
form_of_name form.Range = refl
form_of_name form.Near = refl
form_of_name form.Collection = refl
form_of_name form.DocUri = refl
form_of_name form.Directory = refl

pub same_form : (f g : QueryForm) → form_name f ≡ form_name g → f ≡ g
same_form f g e = same_some f g (sym (form_of_name f) ∙ ap form_named e ∙ form_of_name g)

pub form_is : (name : List ℕ) (f : QueryForm) → form_named name ≡ Some f → name ≡ form_name f
form_is name f e =
    sym ((bytes_eq-Decides (form_name f) name).0 (find_passes (λ g. bytes_eq (form_name g) name) forms f e))

-- ---- signs

pub compare_of_text : (op : Compare) → compare_named (compare_text op) ≡ Some op
compare_of_text Lt = refl
compare_of_text Le = refl
compare_of_text Gt = refl
compare_of_text Ge = refl
compare_of_text Eq = refl
compare_of_text Ne = refl

pub same_compare : (op other : Compare) → compare_text op ≡ compare_text other → op ≡ other
same_compare op other e = same_some op other (sym (compare_of_text op) ∙ ap compare_named e ∙ compare_of_text other)

pub compare_is : (text : List ℕ) (op : Compare) → compare_named text ≡ Some op → text ≡ compare_text op
compare_is text op e =
    sym ((bytes_eq-Decides (compare_text op) text).0
    (find_passes (λ o. bytes_eq (compare_text o) text) compares op e))
