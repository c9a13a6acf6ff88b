use Rattle.directory_meaning.proofs.AlikeLemmas.{shown_begins}
use Rattle.directory_meaning.proofs.laws.shown_begins.Goals as goal

pub returns : goal.returns
returns c = shown_begins
