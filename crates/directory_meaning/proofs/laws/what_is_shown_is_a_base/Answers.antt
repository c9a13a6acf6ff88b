use Rattle.directory_meaning.proofs.BaseLemmas.{what_is_shown_is_a_base}
use Rattle.directory_meaning.proofs.laws.what_is_shown_is_a_base.Goals as goal

pub returns : goal.returns
returns c = what_is_shown_is_a_base
