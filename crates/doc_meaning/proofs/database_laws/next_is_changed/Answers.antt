use Rattle.doc_meaning.proofs.PrefixLemmas.{next_is_changed}
use Rattle.doc_meaning.proofs.database_laws.next_is_changed.Goals as goal

pub returns : goal.returns
returns c = next_is_changed
