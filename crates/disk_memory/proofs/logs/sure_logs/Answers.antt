use Rattle.std.proofs.Common.{◌++◌, ◌∷◌, [], List, subst, sym}
use Rattle.disk_memory.specs.declared.log.MemoryLog.{MemoryLog}
use Rattle.disk_memory.specs.CrashStates.{AreSure}
use Rattle.disk_memory.proofs.CrashStateLemmas.{sure_more}
use Rattle.disk_memory.proofs.logs.sure_logs.Goals as goal

pub logs-preserved : goal.logs-preserved
logs-preserved c =
    subst (λ (ls : List MemoryLog). AreSure ls (c.logs.yielded ++ c.in-Some.content ∷ []))
    (sym c.in_ok-push.ensures.items)
    (sure_more c.logs.logs.items c.logs.yielded c.new.result c.in-Some.content c.logs.invariant c.new.ensures.content
    c.new.ensures.sure c.new.ensures.pending)
