use Rattle.std.proofs.Common.{sym, ◌∙◌}
use Rattle.json_text.specs.Laws.{OneTreeIsMeant}
use Rattle.json_text.proofs.Fronts.{ok_same}
use Rattle.json_text.proofs.OnlyValues.{only}
use Rattle.json_text.proofs.laws.one_tree_is_meant.Goals as goal

one_tree_is_meant : OneTreeIsMeant
one_tree_is_meant bytes v w one other = ok_same v w (sym (only bytes v one) ∙ only bytes w other)

pub returns : goal.returns
returns c = one_tree_is_meant
