use Rattle.disk_model.specs.Moments.{Elapses}
use Rattle.std.proofs.Common.{length, sym, subst}
use Rattle.disk_model.specs.Changes.{OnlyAt}
use Rattle.disk_model.proofs.LogsLemmas.{torn_same}
use Rattle.disk_model.specs.Logs.{Torn}
use Rattle.disk_memory.specs.declared.logs.MemoryLogs.{MemoryLogs}
use Rattle.disk_memory.specs.CrashStates.{read_of, MayLeave, LeftSince}
use Rattle.disk_memory.proofs.CrashStateLemmas.{only_at_same}
use Rattle.disk_memory.proofs.disk.MemoryDiskDisk.write_at.Goals as goal

pub returns-in-Stopped-clause-broken : goal.returns-in-Stopped-clause-broken
returns-in-Stopped-clause-broken c =
    let logs = c.args.self.now.logs.logs.items in
    let step = Torn c.args.place (length c.args.bytes.now) in
    subst (λ (l : MemoryLogs). OnlyAt c.args.file step (read_of logs) (read_of l.logs.items))
    (sym c.fail-in-Stopped.ensures.same)
    (only_at_same c.args.file step (read_of logs) (torn_same c.args.place (length c.args.bytes.now)))

pub returns-in-Stopped-clause-crash : goal.returns-in-Stopped-clause-crash
returns-in-Stopped-clause-crash c image may =
    let step = Torn c.args.place (length c.args.bytes.now) in (
      image,
      subst (λ (l : MemoryLogs). MayLeave l.logs.items image) c.fail-in-Stopped.ensures.same may,
      only_at_same c.args.file step image (torn_same c.args.place (length c.args.bytes.now)),
    )

pub returns-in-Err-clause-time : goal.returns-in-Err-clause-time
returns-in-Err-clause-time c =
    let s = c.args.self.now.logs in
    subst (λ (l : MemoryLogs). Elapses (length s.past.items) (length l.past.items)
    (LeftSince s.past.items s.logs.items) (LeftSince l.past.items l.logs.items) (MayLeave l.logs.items))
    (sym c.fail-in-Err.ensures.same) c.in-Err.ensures.steps.time
