use Rattle.json_text.proofs.KeptRules.{trees_keep_rules}
use Rattle.json_text.proofs.laws.trees_keep_rules.Goals as goal

pub returns : goal.returns
returns c = trees_keep_rules
