use Rattle.std.proofs.Common.{refl}
use Rattle.doc_meaning.proofs.HistoryLemmas.{shown_is_the_same}
use Rattle.doc_meaning.proofs.laws.shown_is_the_same.Goals as goal

pub returns : goal.returns
returns c = λ h. (refl, refl, refl, shown_is_the_same h)
