use Rattle.doc_meaning.proofs.StringLemmas.{first_positions_rise}
use Rattle.doc_meaning.proofs.string_laws.first_positions_rise.Goals as goal

pub returns : goal.returns
returns c = first_positions_rise
