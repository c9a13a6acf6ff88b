use Rattle.std.proofs.Common.{subst₂, sym}
use Rattle.doc_model.specs.declared.query.Query.TheVariants as query
use Rattle.cts_meaning.specs.declared.form.QueryForm.TheVariants as form
use Rattle.cts_text.specs.Saids.{IsSaidAs}
use Rattle.cts_text.proofs.Said.{word_said}
use Rattle.cts_text.proofs.forms.word.query.Goals as goal

pub returns : goal.returns
returns c = subst₂ (λ x y. IsSaidAs form.Word c.args.members.now (query.Word x y))
    (sym c.in_ok-texts.ensures) (sym c.case_in-case.ensures) (word_said c.args.members.now)
