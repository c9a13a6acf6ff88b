use Rattle.std.proofs.Common.{◌≤◌, ◌+◌, [], length}
use Rattle.frame_log.proofs.OtherLemmas.{becomes_other, other_represents, other_left, both_left}
use Rattle.frame_log.proofs.laws.other_logs_represent.Goals as goal

pub returns-clause-within : goal.returns-clause-within
returns-clause-within g c file log old new apart spares within =
    becomes_other (λ bytes. log.end + 1 ≤ length bytes) file log.file _ _ apart spares.reads within

pub returns-clause-represent : goal.returns-clause-represent
returns-clause-represent g c kept more file log old new apart spares represents =
    let laws = g.met.D.Disk g.world.𝓛 g.world.𝓜 g.world.𝓡 ((λ s x. x), (λ x. x), (λ x. x), λ x. x) in
    other_represents g.D.Disk file log old new apart spares
    kept more (laws.counts_now new) represents

pub returns-clause-hold : goal.returns-clause-hold
returns-clause-hold g c kept file log old new apart spares holds =
    let laws = g.met.D.Disk g.world.𝓛 g.world.𝓜 g.world.𝓡 ((λ s x. x), (λ x. x), (λ x. x), λ x. x) in
    let represents = other_represents g.D.Disk file log old new
    apart spares
    kept [] (laws.counts_now new) holds.represents in
    record { good = holds.good; represents = represents }

pub returns-clause-moments : goal.returns-clause-moments
returns-clause-moments g c kept more file log old new apart spares represents =
    other_left g.D.Disk file log old new apart spares
    kept more represents

pub returns-clause-both : goal.returns-clause-both
returns-clause-both g c kept more held rest file log old new apart spares represents has =
    both_left g.D.Disk file log old new apart spares
    kept more held rest represents has
