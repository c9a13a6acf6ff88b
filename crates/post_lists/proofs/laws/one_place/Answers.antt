use Rattle.post_lists.proofs.Damage.{one_place}
use Rattle.post_lists.proofs.laws.one_place.Goals as goal

pub returns : goal.returns
returns c = one_place
