use Rattle.std.proofs.Common.{◌≡◌, drop}
use Rattle.doc_meaning.specs.History.{merge_after}
use Rattle.plain_history.proofs.history.merge_after.Given as goal

abbrev pub invariant-loop-entry : goal.invariant-loop-entry
invariant-loop-entry l = merge_after l.merge (drop l.entry-index l.entries) ≡ merge_after 0 l.entries
