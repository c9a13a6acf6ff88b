use Rattle.disk_memory.specs.CrashStates.{AreSure}
use Rattle.disk_memory.proofs.logs.sure_logs.Given as goal

abbrev pub invariant-logs : goal.invariant-logs
invariant-logs l = AreSure l.logs.items l.yielded
