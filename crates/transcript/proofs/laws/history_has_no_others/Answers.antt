use Rattle.transcript.proofs.EntryLemmas.{history_has_no_others}
use Rattle.transcript.proofs.laws.history_has_no_others.Goals as goal

pub returns : goal.returns
returns c = history_has_no_others
