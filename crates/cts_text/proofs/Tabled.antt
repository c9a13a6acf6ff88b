-- What is in no table.
use Rattle.std.proofs.Common.{◌≡◌, ℕ, Bool, false, cond, List, Option, Some, None, refl, sym, ap, ◌∙◌}
use Rattle.std.proofs.lemmas.Bool.{false_from_ne_true}
use Rattle.std.proofs.lemmas.Slice.Eq.{bytes_eq-Decides}
use Rattle.std.specs.Prelude.{codes}
use Rattle.std.specs.Option.{option_map}
use Rattle.std.specs.Str.{bytes_eq}
use Rattle.doc_model.specs.declared.query.Compare.{Compare}
use Rattle.cts_meaning.specs.Shapes.{compare_named, compare_text, Field, field_shape, fields_of, form_name, form_named, needs}
use Rattle.cts_meaning.specs.declared.form.QueryForm.{QueryForm}
use Rattle.cts_meaning.specs.declared.form.QueryForm.TheVariants as form
use Rattle.cts_meaning.specs.declared.shape.Shape.{Shape}
use Rattle.cts_meaning.specs.declared.shape.Shape.TheVariants as shape
use Rattle.cts_meaning.proofs.Named.{compare_is, form_is}

-- ---- forms

none_by : (name : List ℕ) → ((f : QueryForm) → name ≡ form_name f → ⊥) → (o : Option QueryForm) → form_named name ≡ o →
    form_named name ≡ None
none_by name none None e = e
none_by name none (Some f) e = absurd (none f (form_is name f e))

pub form_none : (name : List ℕ) → ((f : QueryForm) → name ≡ form_name f → ⊥) → form_named name ≡ None
form_none name none = none_by name none (form_named name) refl

-- ---- fields

differs : (text name : List ℕ) → (name ≡ text → ⊥) → bytes_eq text name ≡ false
differs text name ne = false_from_ne_true (bytes_eq text name) (λ e. ne (sym ((bytes_eq-Decides text name).0 e)))

abbrev positive : Field
positive = needs (codes "positiveQuery") shape.Query

abbrev negative : Field
negative = needs (codes "negativeQuery") shape.Query

abbrev either_field : Bool → Bool → Option Shape
either_field first second =
    option_map (λ (f : Field). f.shape) (cond first (Some positive) (cond second (Some negative) None))

pub and_not_none : (name : List ℕ) → (name ≡ codes "positiveQuery" → ⊥) → (name ≡ codes "negativeQuery" → ⊥) →
    None ≡ field_shape (fields_of form.AndNot) name
and_not_none name no_first no_second =
    sym (ap (λ (b : Bool). either_field b (bytes_eq (codes "negativeQuery") name))
    (differs (codes "positiveQuery") name no_first)
    ∙ ap (either_field false) (differs (codes "negativeQuery") name no_second))

-- ---- comparisons

no_compare_by : (text : List ℕ) → ((op : Compare) → text ≡ compare_text op → ⊥) → (o : Option Compare) →
    compare_named text ≡ o → compare_named text ≡ None
no_compare_by text none None e = e
no_compare_by text none (Some op) e = absurd (none op (compare_is text op e))

pub compare_none : (text : List ℕ) → ((op : Compare) → text ≡ compare_text op → ⊥) → compare_named text ≡ None
compare_none text none = no_compare_by text none (compare_named text) refl
