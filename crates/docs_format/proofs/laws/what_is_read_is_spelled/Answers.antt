use Rattle.docs_format.proofs.Found.{read_is_spelled}
use Rattle.docs_format.proofs.laws.what_is_read_is_spelled.Goals as goal

pub returns : goal.returns
returns c = read_is_spelled
