use Rattle.transcript.proofs.OwnTurnLemmas.{later_turns_change_nothing}
use Rattle.transcript.proofs.laws.later_turns_change_nothing.Goals as goal

pub returns : goal.returns
returns c = later_turns_change_nothing
