use Rattle.std.proofs.lemmas.Bool.{and_parts}
use Rattle.docs_format.specs.DocumentFormat.{fields, is_small}
use Rattle.docs_format.proofs.FormatSpells.{fields_spell}
use Rattle.docs_format.proofs.laws.documents_are_spelled_so.Goals as goal

pub returns : goal.returns
returns c = λ d h. fields_spell d (and_parts (fields.fits d) (is_small d) h).0
