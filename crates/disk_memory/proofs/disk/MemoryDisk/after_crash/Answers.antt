use Rattle.std.proofs.Common.{◌∙◌, sym}
use Rattle.disk_memory.proofs.ResultLemmas.{if_ok_both}
use Rattle.disk_memory.proofs.disk.MemoryDisk.after_crash.Goals as goal

pub returns-clause-sure : goal.returns-clause-sure
returns-clause-sure c = if_ok_both c.new.result (λ disk only reads file image may. only image may file ∙
    sym (reads file)) c.new.ensures.sure c.new.ensures.reads
