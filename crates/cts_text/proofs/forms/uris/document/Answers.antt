use Rattle.cts_text.proofs.Said.{doc_uri_with}
use Rattle.cts_text.proofs.forms.uris.document.Goals as goal

pub returns : goal.returns
returns c = doc_uri_with c.args.members.now c.in_ok-texts_in.field-0 c.in_ok-texts_in.ensures
