use Rattle.frame_log.proofs.Stretches.{throughout_both}
use Rattle.log_pair.specs.PairStates.{current_of, first_of, other_of, LeavesAt, PairLeaves, PairMayHave}
use Rattle.log_pair.proofs.Two.{apart_left, apart_represents, apart_trimmed, apart_within}
use Rattle.log_pair.proofs.laws.other_pairs_represent.Goals as goal

pub returns-clause-within : goal.returns-clause-within
returns-clause-within g c one other old new apart spares within = (
  apart_within g.D.Disk (first_of one) (current_of other) old new apart.0 spares within.0,
  apart_within g.D.Disk (first_of one) (other_of other) old new apart.1 spares within.1,
)

pub returns-clause-represent : goal.returns-clause-represent
returns-clause-represent g c kept more one other old new apart spares represents =
    let laws = g.met.D.Disk g.world.𝓛 g.world.𝓜 g.world.𝓡 ((λ s x. x), (λ x. x), (λ x. x), λ x. x) in (
      apart_represents g.D.Disk (first_of one) (current_of other) old new apart.0 spares kept more
          (laws.counts_now new) represents.0,
      apart_represents g.D.Disk (first_of one) (other_of other) old new apart.1 spares kept more
          (laws.counts_now new) represents.1,
    )

pub returns-clause-trimmed : goal.returns-clause-trimmed
returns-clause-trimmed g c one other old new apart spares trimmed =
    let laws = g.met.D.Disk g.world.𝓛 g.world.𝓜 g.world.𝓡 ((λ s x. x), (λ x. x), (λ x. x), λ x. x) in (
      apart_trimmed g.D.Disk (first_of one) (current_of other) old new apart.0 spares (laws.counts_now new) trimmed.0,
      apart_trimmed g.D.Disk (first_of one) (other_of other) old new apart.1 spares (laws.counts_now new) trimmed.1,
    )

pub returns-clause-moments : goal.returns-clause-moments
returns-clause-moments g c kept more one other old new apart spares represents =
    throughout_both _ _ _ _ (λ c. LeavesAt kept more c (current_of other)) (λ c. LeavesAt kept more c (other_of other))
    (apart_left g.D.Disk (first_of one) (current_of other) old new apart.0 spares kept more represents.0)
    (apart_left g.D.Disk (first_of one) (other_of other) old new apart.1 spares kept more represents.1)

pub returns-clause-both : goal.returns-clause-both
returns-clause-both g c kept more held rest one other old new apart spares represents has =
    throughout_both _ _ _ _ (PairMayHave one kept more) (PairLeaves other held rest) has
    (throughout_both _ _ _ _ (λ c. LeavesAt held rest c (current_of other)) (λ c. LeavesAt held rest c (other_of other))
    (apart_left g.D.Disk (first_of one) (current_of other) old new apart.0 spares held rest represents.0)
    (apart_left g.D.Disk (first_of one) (other_of other) old new apart.1 spares held rest represents.1))
