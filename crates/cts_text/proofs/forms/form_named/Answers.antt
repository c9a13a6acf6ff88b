use Rattle.std.proofs.Common.{◌≡◌, sym}
use Rattle.cts_meaning.specs.Shapes.{form_name}
use Rattle.cts_meaning.specs.declared.form.QueryForm.TheVariants as form
use Rattle.cts_text.proofs.Tabled.{form_none}
use Rattle.cts_text.proofs.forms.form_named.Goals as goal

pub returns-in_default : goal.returns-in_default
returns-in_default c = sym (form_none c.args.name.now (λ f. elim f as (λ g. c.args.name.now ≡ form_name g → ⊥) [
  | form.True ↦ c.in_default.not-trueQuery
  | form.False ↦ c.in_default.not-falseQuery
  | form.And ↦ c.in_default.not-andQuery
  | form.Or ↦ c.in_default.not-orQuery
  | form.Not ↦ c.in_default.not-notQuery
  | form.AndNot ↦ c.in_default.not-andNotQuery
  | form.Word ↦ c.in_default.not-wordQuery
  | form.PropWord ↦ c.in_default.not-jsonPropertyWordQuery
  | form.PropValue ↦ c.in_default.not-jsonPropertyValueQuery
  | form.Range ↦ c.in_default.not-jsonPropertyRangeQuery
  | form.Near ↦ c.in_default.not-nearQuery
  | form.Collection ↦ c.in_default.not-collectionQuery
  | form.DocUri ↦ c.in_default.not-documentQuery
  | form.Directory ↦ c.in_default.not-directoryQuery
]))
