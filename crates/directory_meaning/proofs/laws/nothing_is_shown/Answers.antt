use Rattle.directory_meaning.proofs.ShownLemmas.{nothing_is_shown}
use Rattle.directory_meaning.proofs.laws.nothing_is_shown.Goals as goal

pub returns : goal.returns
returns c = nothing_is_shown
