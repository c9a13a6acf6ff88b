use Rattle.std.proofs.Common.{◌≡◌, length}
use Rattle.disk_memory.specs.CrashStates.{AreLeft}
use Rattle.disk_memory.proofs.disk.all_left.Given as goal

abbrev pub invariant-logs : goal.invariant-logs
invariant-logs l = (length l.contents.items ≡ l.k) × AreLeft l.logs l.contents.items
