use Rattle.doc_meaning.proofs.BoundsLemmas.{sure_satisfies}
use Rattle.doc_meaning.proofs.laws.sure_satisfies.Goals as goal

pub returns : goal.returns
returns c = sure_satisfies
