use Rattle.std.proofs.Common.{arith}
use Rattle.disk_memory.proofs.CrashStateLemmas.{sure_length}
use Rattle.disk_memory.proofs.logs.MemoryLogs.new.Goals as goal

pub invariant_of-result : goal.invariant_of-result
invariant_of-result c = record {
  all = omega (
    arith,
    c.in_ok-logs.logs.ok.0,
    sure_length c.in_ok-logs.logs.items c.args.contents.items
        c.in_ok-logs.ensures,
    c.args.contents.ok.0,
    c.requires,
  );
}
