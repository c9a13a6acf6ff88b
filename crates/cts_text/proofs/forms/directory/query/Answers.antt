use Rattle.std.proofs.Common.{subst₂, sym}
use Rattle.doc_model.specs.declared.query.Query.TheVariants as query
use Rattle.cts_meaning.specs.declared.form.QueryForm.TheVariants as form
use Rattle.cts_text.specs.Saids.{IsSaidAs}
use Rattle.cts_text.proofs.Said.{directory_said}
use Rattle.cts_text.proofs.forms.directory.query.Goals as goal

pub returns : goal.returns
returns c = subst₂ (λ x y. IsSaidAs form.Directory c.args.members.now (query.Directory x y))
    (sym c.in_ok-uris.ensures) (sym c.is_infinite-infinite.ensures) (directory_said c.args.members.now)
