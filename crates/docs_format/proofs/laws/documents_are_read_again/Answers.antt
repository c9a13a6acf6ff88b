use Rattle.docs_format.proofs.Takes.{spelled_again}
use Rattle.docs_format.proofs.laws.documents_are_read_again.Goals as goal

pub returns : goal.returns
returns c = spelled_again
