use Rattle.doc_meaning.proofs.BoundsLemmas.{satisfies_maybe}
use Rattle.doc_meaning.proofs.laws.satisfies_maybe.Goals as goal

pub returns : goal.returns
returns c = satisfies_maybe
