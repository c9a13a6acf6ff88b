use Rattle.docs_format.proofs.Places.{beginnings_end_early}
use Rattle.docs_format.proofs.laws.beginnings_end_early.Goals as goal

pub returns : goal.returns
returns c = beginnings_end_early
