use Rattle.journal_bodies.proofs.EntryPlaces.{entries_end_early}
use Rattle.journal_bodies.proofs.laws.entries_end_early.Goals as goal

pub returns : goal.returns
returns c = entries_end_early
