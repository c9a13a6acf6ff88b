use Rattle.std.proofs.Common.{◌≡◌, ◌+◌, length, map}
use Rattle.std.specs.FinMap.{empty}
use Rattle.std.specs.Vec.Iter.{into_iter_items, into_iter_len}
use Rattle.doc_meaning.specs.History.{after_entries, merge_after}
use Rattle.directory_meaning.specs.Bodies.{RiseFrom}
use Rattle.doc_engine.proofs.restoring.restore.Given as goal

abbrev pub invariant-loop-number : goal.invariant-loop-number
invariant-loop-number l = record {
  rises : RiseFrom (l.restored.front + 1) (into_iter_items l.number-iterator);
  counted : into_iter_len l.number-iterator ≡ length (into_iter_items l.number-iterator);
  front : l.restored.front + length (into_iter_items l.number-iterator) ≡ l.fn.checkpoint + length l.fn.entries.items;
  merge : merge_after l.restored.merge (map (λ e. e.1) (into_iter_items l.number-iterator))
      ≡ merge_after l.fn.merge (map (λ e. e.1) l.fn.entries.items);
  live : after_entries l.restored.front (map (λ e. e.1) (into_iter_items l.number-iterator)) l.restored.live
      ≡ after_entries l.fn.checkpoint (map (λ e. e.1) l.fn.entries.items) empty;
}
