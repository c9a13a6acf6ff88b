use Rattle.cts_meaning.proofs.EachJudged.{each_tree_is_judged}
use Rattle.cts_meaning.proofs.laws.each_tree_is_judged.Goals as goal

pub returns : goal.returns
returns c = each_tree_is_judged
