use Rattle.std.proofs.Common.{◌≡◌, ◌<◌, ℕ, List, length, Some, sym, ap, subst, arith, Vec}
use Rattle.std.specs.declared.alloc.Global.{Global}
use Rattle.disk_memory.specs.declared.log.MemoryLog.{MemoryLog}
use Rattle.std.specs.Prelude.{slice_get}
use Rattle.disk_model.proofs.LogsLemmas.{cut_same}
use Rattle.disk_model.specs.Logs.{MayCut}
use Rattle.disk_memory.proofs.CrashStateLemmas.{get_here, read_at, steps_at, only_at_same, steps_same}
use Rattle.disk_memory.proofs.logs.MemoryLogs.miss_cut.Goals as goal

pub returns-in_err-push-clause-err : goal.returns-in_err-push-clause-err
returns-in_err-push-clause-err c = only_at_same c.args.file (MayCut c.args.len) _ (cut_same c.args.len)

pub returns-in_err-push-clause-steps : goal.returns-in_err-push-clause-steps
returns-in_err-push-clause-steps c =
    let s = c.args.self.now in
    steps_same c.args.file (MayCut c.args.len) s.past.items c.push.new.self.items s.logs.items
    c.in_err-push.ensures.items (cut_same c.args.len)

pub returns-clause-err : goal.returns-clause-err
returns-clause-err c =
    let s = c.args.self.now in
    let logs = s.logs.items in
    let log = c.index_mut.result.now in
    let within : c.args.file < length logs = omega (arith, c.requires, s.all, s.logs.ok.0) in
    let here : slice_get logs c.args.file ≡ Some log = get_here logs c.args.file log within c.index_mut.ensures.value in
    read_at logs c.args.file log c.miss_cut.new.self (MayCut c.args.len) within here
    (subst (λ (bytes : List ℕ). MayCut c.args.len log.content.items bytes) (sym c.miss_cut.ensures.same)
    ((cut_same c.args.len) log.content.items))

pub returns-clause-steps : goal.returns-clause-steps
returns-clause-steps c =
    let s = c.args.self.now in
    let logs = s.logs.items in
    let log = c.index_mut.result.now in
    let within : c.args.file < length logs = omega (arith, c.requires, s.all, s.logs.ok.0) in
    let here : slice_get logs c.args.file ≡ Some log = get_here logs c.args.file log within c.index_mut.ensures.value in
    steps_at s.past.items c.push.new.self.items c.of.result logs c.args.file log c.miss_cut.new.self
    (MayCut c.args.len) c.in_ok-push.ensures.items (ap (λ (v : Vec MemoryLog Global). v.items) c.of.ensures)
    within here c.miss_cut.ensures.crash
