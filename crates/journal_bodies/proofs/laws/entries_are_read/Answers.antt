use Rattle.journal_bodies.proofs.EntryPlaces.{entries_are_read}
use Rattle.journal_bodies.proofs.laws.entries_are_read.Goals as goal

pub returns : goal.returns
returns c = entries_are_read
