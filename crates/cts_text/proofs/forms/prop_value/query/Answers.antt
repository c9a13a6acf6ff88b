use Rattle.cts_text.proofs.Said.{prop_value_with}
use Rattle.cts_text.proofs.forms.prop_value.query.Goals as goal

pub returns : goal.returns
returns c = prop_value_with c.args.members.now c.in_ok-names.names c.in_ok-values.values c.case_in-case.result
    c.has_option-exact.result c.in_ok-names.ensures c.in_ok-values.ensures c.case_in-case.ensures
    c.has_option-exact.ensures
