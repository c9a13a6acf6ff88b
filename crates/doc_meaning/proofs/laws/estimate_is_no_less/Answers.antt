use Rattle.doc_meaning.proofs.EstimateLemmas.{estimate_is_no_less}
use Rattle.doc_meaning.proofs.laws.estimate_is_no_less.Goals as goal

pub returns : goal.returns
returns c = estimate_is_no_less
