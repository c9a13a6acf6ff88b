use Rattle.doc_meaning.proofs.WordsLemmas.{words_are_maximal_runs}
use Rattle.doc_meaning.proofs.laws.words_are_maximal_runs.Goals as goal

pub returns : goal.returns
returns c = words_are_maximal_runs
