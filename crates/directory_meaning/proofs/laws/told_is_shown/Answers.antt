use Rattle.directory_meaning.proofs.ShownLemmas.{told_is_shown}
use Rattle.directory_meaning.proofs.laws.told_is_shown.Goals as goal

pub returns : goal.returns
returns c = told_is_shown
