use Rattle.journal_bodies.proofs.RootPlaces.{roots_are_read}
use Rattle.journal_bodies.proofs.laws.roots_are_read.Goals as goal

pub returns : goal.returns
returns c = roots_are_read
