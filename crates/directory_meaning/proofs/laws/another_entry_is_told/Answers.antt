use Rattle.directory_meaning.proofs.NextLemmas.{another_entry_is_told}
use Rattle.directory_meaning.proofs.laws.another_entry_is_told.Goals as goal

pub returns : goal.returns
returns c = another_entry_is_told
