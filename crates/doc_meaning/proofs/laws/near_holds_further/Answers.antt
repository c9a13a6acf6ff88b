use Rattle.doc_meaning.proofs.NearLemmas.{near_holds_further}
use Rattle.doc_meaning.proofs.laws.near_holds_further.Goals as goal

pub returns : goal.returns
returns c = near_holds_further
