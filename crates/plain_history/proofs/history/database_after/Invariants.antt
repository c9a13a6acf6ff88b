use Rattle.std.proofs.Common.{◌≡◌, drop}
use Rattle.std.specs.FinMap as map
use Rattle.doc_meaning.specs.History.{after_entries}
use Rattle.plain_history.proofs.history.database_after.Given as goal

abbrev pub invariant-loop-i : goal.invariant-loop-i
invariant-loop-i l = after_entries l.i (drop l.i l.entries) l.database ≡ after_entries 0 l.entries map.empty
