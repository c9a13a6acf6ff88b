use Rattle.doc_meaning.proofs.PrefixLemmas.{first_is_a_history}
use Rattle.doc_meaning.proofs.prefix_laws.first_is_a_history.Goals as goal

pub returns : goal.returns
returns c = first_is_a_history
