use Rattle.directory_meaning.proofs.ShownLemmas.{kept_is_shown}
use Rattle.directory_meaning.proofs.laws.kept_is_shown.Goals as goal

pub returns : goal.returns
returns c = kept_is_shown
