use Rattle.doc_meaning.proofs.ReplyLemmas.{entries_are_alike}
use Rattle.doc_meaning.proofs.reply_laws.entries_are_alike.Goals as goal

pub returns : goal.returns
returns c = entries_are_alike
