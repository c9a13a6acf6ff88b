use Rattle.doc_meaning.proofs.PrefixLemmas.{forgets_change_nothing}
use Rattle.doc_meaning.proofs.database_laws.forgets_change_nothing.Goals as goal

pub returns : goal.returns
returns c = forgets_change_nothing
