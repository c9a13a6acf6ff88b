use Rattle.std.proofs.Common.{◌≡◌, drop}
use Rattle.std.specs.List.{find}
use Rattle.doc_meaning.specs.Replies.{differs}
use Rattle.live_documents.proofs.documents.LiveDocuments.first_that_differs.Given as goal

abbrev pub invariant-loop-op : goal.invariant-loop-op
invariant-loop-op l = find (differs l.self) (drop l.op-index l.ops) ≡ find (differs l.self) l.ops
