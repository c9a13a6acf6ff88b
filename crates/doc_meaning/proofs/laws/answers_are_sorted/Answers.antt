use Rattle.doc_meaning.proofs.SortedLemmas.{answers_are_sorted}
use Rattle.doc_meaning.proofs.laws.answers_are_sorted.Goals as goal

pub returns : goal.returns
returns c = answers_are_sorted
