use Rattle.std.proofs.Common.{arith}
use Rattle.std.proofs.lemmas.Grind.{common_steps}
use Rattle.doc_meaning.proofs.PositionLemmas.{filter_range_push}
use Rattle.plain_query.proofs.word_positions.positions.Goals as goal

pub loop-j-preserved : goal.loop-j-preserved
loop-j-preserved c = grind (arith, common_steps, filter_range_push)
