use Rattle.std.proofs.Common.{arith}
use Rattle.post_lists.proofs.Damage.{gives}
use Rattle.post_lists.proofs.term_list.TermList.read.Goals as goal

pub returns-clause-only : goal.returns-clause-only
returns-clause-only c = λ items s.
    gives c.args.count c.args.below c.args.bytes.now items c.read_all.result (omega (arith, c.ranges.below.fits))
    c.read_all.ensures s
