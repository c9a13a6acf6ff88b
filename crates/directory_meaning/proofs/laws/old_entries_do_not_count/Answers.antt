use Rattle.directory_meaning.proofs.EmptyLemmas.{old_entries_do_not_count}
use Rattle.directory_meaning.proofs.laws.old_entries_do_not_count.Goals as goal

pub returns : goal.returns
returns c = old_entries_do_not_count
