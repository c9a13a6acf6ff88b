use Rattle.disk_model.specs.Moments.{Elapses}
use Rattle.std.proofs.Common.{length, sym, subst}
use Rattle.disk_model.proofs.LogsLemmas.{cut_same}
use Rattle.disk_model.specs.Logs.{MayCut}
use Rattle.disk_memory.specs.declared.logs.MemoryLogs.{MemoryLogs}
use Rattle.disk_memory.specs.CrashStates.{MayLeave, LeftSince}
use Rattle.disk_memory.proofs.CrashStateLemmas.{only_at_same}
use Rattle.disk_memory.proofs.disk.MemoryDiskDisk.cut.Goals as goal

pub returns-in-Stopped-clause-crash : goal.returns-in-Stopped-clause-crash
returns-in-Stopped-clause-crash c image may = (
  image,
  subst (λ (l : MemoryLogs). MayLeave l.logs.items image) c.fail-in-Stopped.ensures.same may,
  only_at_same c.args.file (MayCut c.args.len) image (cut_same c.args.len),
)

pub returns-in-Err-clause-time : goal.returns-in-Err-clause-time
returns-in-Err-clause-time c =
    let s = c.args.self.now.logs in
    subst (λ (l : MemoryLogs). Elapses (length s.past.items) (length l.past.items)
    (LeftSince s.past.items s.logs.items) (LeftSince l.past.items l.logs.items) (MayLeave l.logs.items))
    (sym c.fail-in-Err.ensures.same) c.in-Err.ensures.steps.time
