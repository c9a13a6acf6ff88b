use Rattle.disk_memory.proofs.CrashStateLemmas.{sure_reads, sure_only}
use Rattle.disk_memory.proofs.disk.MemoryDisk.new.Goals as goal

pub returns-clause-reads : goal.returns-clause-reads
returns-clause-reads c = sure_reads c.in_ok-logs.logs.logs.items c.args.contents.items c.in_ok-logs.ensures

pub returns-clause-sure : goal.returns-clause-sure
returns-clause-sure c image may = sure_only c.in_ok-logs.logs.logs.items c.args.contents.items c.in_ok-logs.ensures
    image may
