use Rattle.doc_meaning.proofs.MeaningLemmas.{and_satisfies_each}
use Rattle.doc_meaning.proofs.laws.and_satisfies_each.Goals as goal

pub returns : goal.returns
returns c = and_satisfies_each
