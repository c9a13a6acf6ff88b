use Rattle.directory_meaning.proofs.AlikeLemmas.{entries_go_on_alike}
use Rattle.directory_meaning.proofs.laws.entries_go_on_alike.Goals as goal

pub returns : goal.returns
returns c = entries_go_on_alike
