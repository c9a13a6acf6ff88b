use Rattle.std.proofs.Common.{◌≡◌, vec_len}
use Rattle.live_documents.specs.Staging.{before_puts, undone}
use Rattle.live_documents.proofs.documents.LiveDocuments.take_back.Given as goal

abbrev pub invariant-loop-last : goal.invariant-loop-last
invariant-loop-last l = before_puts l.replaced.items l.self ≡ undone l.fn.staged l.fn.self

abbrev pub decreases-loop-last : goal.decreases-loop-last
decreases-loop-last l = vec_len l.replaced
