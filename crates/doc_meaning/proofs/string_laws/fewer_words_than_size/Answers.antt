use Rattle.doc_meaning.proofs.StringLemmas.{fewer_words_than_size}
use Rattle.doc_meaning.proofs.string_laws.fewer_words_than_size.Goals as goal

pub returns : goal.returns
returns c = fewer_words_than_size
