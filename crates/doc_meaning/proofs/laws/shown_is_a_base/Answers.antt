use Rattle.doc_meaning.proofs.ShownLemmas.{shown_is_a_base}
use Rattle.doc_meaning.proofs.laws.shown_is_a_base.Goals as goal

pub returns : goal.returns
returns c = shown_is_a_base
