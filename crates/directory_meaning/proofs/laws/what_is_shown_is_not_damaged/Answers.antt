use Rattle.directory_meaning.proofs.DamageLemmas.{what_is_shown_is_not_damaged}
use Rattle.directory_meaning.proofs.laws.what_is_shown_is_not_damaged.Goals as goal

pub returns : goal.returns
returns c = what_is_shown_is_not_damaged
