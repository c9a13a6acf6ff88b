use Rattle.directory_meaning.proofs.ShownLemmas.{one_base_is_shown}
use Rattle.directory_meaning.proofs.laws.one_base_is_shown.Goals as goal

pub returns : goal.returns
returns c = one_base_is_shown
