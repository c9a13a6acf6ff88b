use Rattle.docs_format.proofs.Places.{more_is_too_many}
use Rattle.docs_format.proofs.laws.more_is_too_many.Goals as goal

pub returns : goal.returns
returns c = more_is_too_many
