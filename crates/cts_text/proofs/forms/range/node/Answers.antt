use Rattle.std.proofs.Common.{◌∷◌, ◌++◌, [], ap, ◌∙◌}
use Rattle.std.specs.Prelude.{codes}
use Rattle.cts_meaning.specs.Canonical.{scalars_node, texts_node}
use Rattle.cts_meaning.specs.declared.form.QueryForm.TheVariants as form
use Rattle.cts_meaning.specs.Shapes.{compare_text}
use Rattle.doc_model.specs.declared.node.Node.TheVariants as node
use Rattle.cts_text.proofs.Members.{object_of, pair, two_members}
use Rattle.cts_text.proofs.forms.range.node.Goals as goal

pub returns : goal.returns
returns c =
    object_of form.Range c.in_ok-all.all _ c.query_object.result
    (two_members (codes "property") (codes "operator") c.in_ok-texts_node.field-0 c.in_ok-text_node.field-0
    (texts_node c.args.names.now) (node.Text (compare_text c.args.op))
    (pair (codes "value") (scalars_node c.args.values.now) ∷ []) c.in_ok-named.named c.in_ok-compared.compared
    c.in_ok-all.all c.in_ok-named.ensures c.in_ok-compared.ensures
    (c.in_ok-all.ensures ∙ ap (λ n. c.in_ok-compared.compared ++ pair (codes "value") n ∷ [])
    c.in_ok-scalars_node.ensures)
    c.in_ok-texts_node.ensures (c.in_ok-text_node.ensures ∙ ap node.Text c.compare_text.ensures))
    c.query_object.ensures
