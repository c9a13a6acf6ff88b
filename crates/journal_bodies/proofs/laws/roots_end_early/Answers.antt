use Rattle.journal_bodies.proofs.RootPlaces.{roots_end_early}
use Rattle.journal_bodies.proofs.laws.roots_end_early.Goals as goal

pub returns : goal.returns
returns c = roots_end_early
