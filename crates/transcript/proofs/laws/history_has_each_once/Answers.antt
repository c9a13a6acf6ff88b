use Rattle.transcript.proofs.EntryLemmas.{history_has_each_once}
use Rattle.transcript.proofs.laws.history_has_each_once.Goals as goal

pub returns : goal.returns
returns c = history_has_each_once
