use Rattle.std.proofs.Common.{◌≡◌, ◌++◌}
use Rattle.live_documents.proofs.AnswerLemmas.{passing}
use Rattle.live_documents.proofs.documents.LiveDocuments.answer.Given as goal

abbrev pub invariant-loop-uri : goal.invariant-loop-uri
invariant-loop-uri l = l.found ++ passing l.uri-iterator l.filter ≡ passing l.initial.uri-iterator l.filter
