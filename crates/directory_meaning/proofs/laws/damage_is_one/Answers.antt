use Rattle.directory_meaning.proofs.DamageLemmas.{damage_is_one}
use Rattle.directory_meaning.proofs.laws.damage_is_one.Goals as goal

pub returns : goal.returns
returns c = damage_is_one
