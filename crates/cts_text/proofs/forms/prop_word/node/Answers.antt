use Rattle.std.proofs.Common.{◌++◌, ap, ◌∙◌}
use Rattle.std.specs.Prelude.{codes}
use Rattle.cts_meaning.specs.Canonical.{case_options, options_member, texts_node}
use Rattle.cts_meaning.specs.declared.form.QueryForm.TheVariants as form
use Rattle.cts_text.proofs.Members.{object_of, two_members}
use Rattle.cts_text.proofs.forms.prop_word.node.Goals as goal

pub returns : goal.returns
returns c = object_of form.PropWord c.in_ok-all.all _ c.query_object.result
    (two_members (codes "property") (codes "text") c.in_ok-texts_node.field-0 c.in_ok-texts_node-2.field-0
    (texts_node c.args.names.now) (texts_node c.args.texts.now) (options_member (case_options c.args.case))
    c.in_ok-named.named c.in_ok-told.told c.in_ok-all.all c.in_ok-named.ensures c.in_ok-told.ensures
    (c.in_ok-all.ensures ∙ ap (λ options. c.in_ok-told.told ++ options_member options) c.in_ok-case_options.ensures)
    c.in_ok-texts_node.ensures c.in_ok-texts_node-2.ensures) c.query_object.ensures
