use Rattle.cts_text.proofs.Tabled.{and_not_none}
use Rattle.cts_text.proofs.forms.and_not.field_shape.Goals as goal

pub returns-in_default : goal.returns-in_default
returns-in_default c = and_not_none c.args.name.now c.in_default.not-positiveQuery c.in_default.not-negativeQuery
