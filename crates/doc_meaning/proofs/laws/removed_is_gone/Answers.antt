use Rattle.doc_meaning.proofs.CommitLemmas.{removed_is_gone}
use Rattle.doc_meaning.proofs.laws.removed_is_gone.Goals as goal

pub returns : goal.returns
returns c = removed_is_gone
