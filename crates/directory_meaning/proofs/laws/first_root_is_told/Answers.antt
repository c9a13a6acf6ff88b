use Rattle.directory_meaning.proofs.EmptyLemmas.{first_root_is_told}
use Rattle.directory_meaning.proofs.laws.first_root_is_told.Goals as goal

pub returns : goal.returns
returns c = first_root_is_told
