-- What is told of an operation that expects another live version than there is.
use Rattle.doc_model.specs.Operations.{uri_of}
use Rattle.doc_model.specs.declared.op.Op.{Op}
use Rattle.doc_meaning.specs.History.{Database}
use Rattle.doc_meaning.specs.Replies.{live_stamp}
use Rattle.live_documents.specs.declared.conflict.Conflict.{Conflict}

-- its URI, and the stamp that is live there, 0 for none
abbrev pub conflict_at : Database → Op → Conflict
conflict_at db op = record { uri = uri_of op; found = live_stamp db (uri_of op) }
