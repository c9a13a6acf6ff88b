use Rattle.doc_engine.proofs.Representations.{untouched_is_shown}
use Rattle.doc_engine.proofs.laws.untouched_is_shown.Goals as goal

pub returns : goal.returns
returns g c = untouched_is_shown g.D.Disk
