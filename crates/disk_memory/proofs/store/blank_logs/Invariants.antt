use Rattle.std.proofs.Common.{◌≡◌, length}
use Rattle.disk_memory.specs.CrashStates.{AreBlank}
use Rattle.disk_memory.proofs.store.blank_logs.Given as goal

abbrev pub invariant-logs : goal.invariant-logs
invariant-logs l = (length l.contents.items ≡ l.counter) × AreBlank l.contents.items
