use Rattle.transcript.proofs.HistoryLemmas.{legal_turns_make_a_history}
use Rattle.transcript.proofs.laws.legal_turns_make_a_history.Goals as goal

pub returns : goal.returns
returns c = legal_turns_make_a_history
