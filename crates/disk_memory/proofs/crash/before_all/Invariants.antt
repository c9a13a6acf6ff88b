use Rattle.std.proofs.Common.{◌≡◌, ◌-◌, length, take}
use Rattle.disk_memory.specs.Changes.{undone}
use Rattle.disk_memory.proofs.crash.before_all.Given as goal

abbrev pub invariant-loop-k : goal.invariant-loop-k
invariant-loop-k l = undone (take (length l.changes - l.k) l.changes) l.bytes.items ≡ undone l.changes l.now
