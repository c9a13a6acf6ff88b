use Rattle.std.proofs.Common.{◌≡◌, ◌++◌, IsTrue, map, length}
use Rattle.std.specs.Vec.Iter.{into_iter_items, into_iter_len}
use Rattle.doc_model.specs.Operations.{uri_of}
use Rattle.doc_model.specs.Tree.{is_distinct}
use Rattle.doc_meaning.specs.History.{after_ops}
use Rattle.live_documents.specs.Staging.{settled, undone}
use Rattle.live_documents.proofs.documents.LiveDocuments.stage_all.Given as goal

abbrev pub invariant-loop-op : goal.invariant-loop-op
invariant-loop-op l = record {
  counted : into_iter_len l.op-iterator ≡ length (into_iter_items l.op-iterator);
  distinct : IsTrue (is_distinct (l.staged.removals.items ++ map uri_of (into_iter_items l.op-iterator)));
  after : after_ops l.at (into_iter_items l.op-iterator) (settled l.staged l.self)
      ≡ after_ops l.at l.fn.ops.items (settled l.fn.staged l.fn.self);
  before : undone l.staged l.self ≡ undone l.fn.staged l.fn.self;
}
