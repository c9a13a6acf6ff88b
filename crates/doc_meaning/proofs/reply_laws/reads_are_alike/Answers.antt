use Rattle.doc_meaning.proofs.ReplyLemmas.{reads_are_alike}
use Rattle.doc_meaning.proofs.reply_laws.reads_are_alike.Goals as goal

pub returns : goal.returns
returns c = reads_are_alike
