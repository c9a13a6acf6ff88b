use Rattle.std.proofs.Common.{arith}
use Rattle.std.proofs.lemmas.Grind.{common_steps}
use Rattle.doc_meaning.proofs.PositionLemmas.{filter_range_push}
use Rattle.doc_filter.proofs.word_runs.add_positions.Goals as goal

pub loop-place-preserved : goal.loop-place-preserved
loop-place-preserved c = grind (arith, common_steps, filter_range_push)
