use Rattle.std.proofs.Common.{length}
use Rattle.plain_query.proofs.text_bounding.+neighbours_occur.Given as goal

abbrev pub decreases-neighbours_occur : goal.decreases-neighbours_occur
decreases-neighbours_occur l = length l.words.now
