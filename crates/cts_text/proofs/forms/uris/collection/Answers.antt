use Rattle.cts_text.proofs.Said.{collection_with}
use Rattle.cts_text.proofs.forms.uris.collection.Goals as goal

pub returns : goal.returns
returns c = collection_with c.args.members.now c.in_ok-texts_in.field-0 c.in_ok-texts_in.ensures
