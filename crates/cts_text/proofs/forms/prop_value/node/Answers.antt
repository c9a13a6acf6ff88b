use Rattle.std.proofs.Common.{◌++◌, ap, ◌∙◌}
use Rattle.std.specs.Prelude.{codes}
use Rattle.cts_meaning.specs.Canonical.{case_options, option_if, options_member, scalars_node, texts_node}
use Rattle.cts_meaning.specs.declared.form.QueryForm.TheVariants as form
use Rattle.cts_text.proofs.Members.{object_of, two_members}
use Rattle.cts_text.proofs.forms.prop_value.node.Goals as goal

pub returns : goal.returns
returns c =
    let exact = option_if c.args.exact (codes "exact") in
    object_of form.PropValue c.in_ok-all.all _ c.query_object.result
    (two_members (codes "property") (codes "value") c.in_ok-texts_node.field-0 c.in_ok-scalars_node.field-0
    (texts_node c.args.names.now) (scalars_node c.args.values.now)
    (options_member (case_options c.args.case ++ exact)) c.in_ok-named.named c.in_ok-valued.valued c.in_ok-all.all
    c.in_ok-named.ensures c.in_ok-valued.ensures
    (c.in_ok-all.ensures ∙ ap (λ options. c.in_ok-valued.valued ++ options_member options)
    (c.in_ok-options.ensures ∙ ap (λ options. options ++ exact) c.in_ok-case_options.ensures))
    c.in_ok-texts_node.ensures c.in_ok-scalars_node.ensures) c.query_object.ensures
