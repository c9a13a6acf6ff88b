use Rattle.cts_meaning.proofs.OneQuery.{one_query_is_said}
use Rattle.cts_meaning.proofs.laws.one_query_is_said.Goals as goal

pub returns : goal.returns
returns c = one_query_is_said
