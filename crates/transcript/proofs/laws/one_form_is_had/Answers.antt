use Rattle.transcript.proofs.OneFormLemmas.{one_form_is_had}
use Rattle.transcript.proofs.laws.one_form_is_had.Goals as goal

pub returns : goal.returns
returns c = one_form_is_had
