use Rattle.cts_text.proofs.Said.{range_with}
use Rattle.cts_text.proofs.forms.range.query.Goals as goal

pub returns : goal.returns
returns c = range_with c.args.members.now c.in_ok-names.names c.compare_in-op.result c.in_ok-values.values
    c.in_ok-names.ensures c.compare_in-op.ensures c.in_ok-values.ensures
