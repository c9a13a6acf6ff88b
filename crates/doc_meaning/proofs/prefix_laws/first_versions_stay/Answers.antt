use Rattle.doc_meaning.proofs.PrefixLemmas.{first_versions_stay}
use Rattle.doc_meaning.proofs.prefix_laws.first_versions_stay.Goals as goal

pub returns : goal.returns
returns c = first_versions_stay
