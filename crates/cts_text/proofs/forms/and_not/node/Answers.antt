use Rattle.std.proofs.Common.{◌∷◌, ◌++◌, [], ap, ◌∙◌}
use Rattle.std.specs.Prelude.{codes}
use Rattle.cts_meaning.specs.declared.form.QueryForm.TheVariants as form
use Rattle.cts_text.proofs.Members.{object_of, pair}
use Rattle.cts_text.proofs.forms.and_not.node.Goals as goal

pub returns : goal.returns
returns c = object_of form.AndNot c.in_ok-both.both _ c.query_object.result
    (c.in_ok-both.ensures ∙ ap (λ ms. ms ++ pair (codes "negativeQuery") c.args.negative ∷ []) c.in_ok-first.ensures)
    c.query_object.ensures
