use Rattle.doc_meaning.proofs.PrefixLemmas.{first_of_first}
use Rattle.doc_meaning.proofs.prefix_laws.first_of_first.Goals as goal

pub returns : goal.returns
returns c = first_of_first
