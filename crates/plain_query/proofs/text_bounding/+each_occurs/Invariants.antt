use Rattle.std.proofs.Common.{length}
use Rattle.plain_query.proofs.text_bounding.+each_occurs.Given as goal

abbrev pub decreases-each_occurs : goal.decreases-each_occurs
decreases-each_occurs l = length l.words.now
