use Rattle.json_text.proofs.WrittenUtf8.{canonical_texts_are_read}
use Rattle.json_text.proofs.laws.canonical_texts_are_read.Goals as goal

pub returns : goal.returns
returns c = canonical_texts_are_read
