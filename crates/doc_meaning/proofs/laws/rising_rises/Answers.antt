use Rattle.doc_meaning.proofs.RisingLemmas.{rising_rises}
use Rattle.doc_meaning.proofs.laws.rising_rises.Goals as goal

pub returns : goal.returns
returns c = rising_rises
