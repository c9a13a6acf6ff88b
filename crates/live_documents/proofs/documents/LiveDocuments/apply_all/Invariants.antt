use Rattle.std.proofs.Common.{◌≡◌, length}
use Rattle.std.specs.Vec.Iter.{into_iter_items, into_iter_len}
use Rattle.doc_meaning.specs.History.{after_ops}
use Rattle.live_documents.proofs.documents.LiveDocuments.apply_all.Given as goal

abbrev pub invariant-loop-op : goal.invariant-loop-op
invariant-loop-op l =
    (into_iter_len l.op-iterator ≡ length (into_iter_items l.op-iterator))
    × (after_ops l.at (into_iter_items l.op-iterator) l.self ≡ after_ops l.at l.fn.ops.items l.fn.self)
