use Rattle.doc_engine.proofs.Representations.{represented_is_shown}
use Rattle.doc_engine.proofs.laws.represented_is_shown.Goals as goal

pub returns : goal.returns
returns g c = represented_is_shown g.D.Disk
