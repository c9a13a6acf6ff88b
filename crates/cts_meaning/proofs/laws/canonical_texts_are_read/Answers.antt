use Rattle.cts_meaning.proofs.CanonicalQueries.{canonical_texts_are_read}
use Rattle.cts_meaning.proofs.laws.canonical_texts_are_read.Goals as goal

pub returns : goal.returns
returns c = canonical_texts_are_read
