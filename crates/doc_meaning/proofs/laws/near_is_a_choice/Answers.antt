use Rattle.doc_meaning.proofs.NearLemmas.{near_is_a_choice}
use Rattle.doc_meaning.proofs.laws.near_is_a_choice.Goals as goal

pub returns : goal.returns
returns c = near_is_a_choice
