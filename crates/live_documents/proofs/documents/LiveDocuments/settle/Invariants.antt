use Rattle.std.proofs.Common.{◌≡◌, drop}
use Rattle.live_documents.specs.Staging.{without, settled}
use Rattle.live_documents.proofs.documents.LiveDocuments.settle.Given as goal

abbrev pub invariant-loop-uri : goal.invariant-loop-uri
invariant-loop-uri l = without (drop l.uri-index l.uri-items) l.self ≡ settled l.fn.staged l.fn.self
