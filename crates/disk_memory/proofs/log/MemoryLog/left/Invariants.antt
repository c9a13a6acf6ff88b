use Rattle.std.proofs.Common.{take}
use Rattle.disk_memory.specs.Changes.{MayHold}
use Rattle.disk_memory.proofs.log.MemoryLog.left.Given as goal

abbrev pub invariant-loop-k : goal.invariant-loop-k
invariant-loop-k l = MayHold (take l.k l.self.pending.items) l.self.sure.value.items l.bytes.items
