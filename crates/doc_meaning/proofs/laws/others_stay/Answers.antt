use Rattle.doc_meaning.proofs.CommitLemmas.{others_stay}
use Rattle.doc_meaning.proofs.laws.others_stay.Goals as goal

pub returns : goal.returns
returns c = others_stay
