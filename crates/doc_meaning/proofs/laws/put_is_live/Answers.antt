use Rattle.doc_meaning.proofs.CommitLemmas.{put_is_live}
use Rattle.doc_meaning.proofs.laws.put_is_live.Goals as goal

pub returns : goal.returns
returns c = put_is_live
