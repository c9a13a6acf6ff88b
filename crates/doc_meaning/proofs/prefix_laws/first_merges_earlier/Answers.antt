use Rattle.doc_meaning.proofs.PrefixLemmas.{first_merges_earlier}
use Rattle.doc_meaning.proofs.prefix_laws.first_merges_earlier.Goals as goal

pub returns : goal.returns
returns c = first_merges_earlier
