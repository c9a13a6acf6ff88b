use Rattle.std.proofs.Common.{◌≡◌, ◌<◌, length, Some, ap, arith, Vec}
use Rattle.std.specs.declared.alloc.Global.{Global}
use Rattle.disk_memory.specs.declared.log.MemoryLog.{MemoryLog}
use Rattle.std.specs.Prelude.{slice_get}
use Rattle.disk_model.specs.Changes.{Any}
use Rattle.disk_memory.proofs.CrashStateLemmas.{get_here, read_same, steps_at, steps_same}
use Rattle.disk_memory.proofs.logs.MemoryLogs.sync.Goals as goal
use Rattle.disk_memory.specs.Changes.{redone}
use Rattle.disk_memory.specs.Laws.{may_read}

pub returns-in_err-push-clause-steps : goal.returns-in_err-push-clause-steps
returns-in_err-push-clause-steps c =
    let s = c.args.self.now in
    steps_same c.args.file Any s.past.items c.push.new.self.items s.logs.items c.in_err-push.ensures.items (λ bytes. tt)

pub returns-clause-read : goal.returns-clause-read
returns-clause-read c =
    let s = c.args.self.now in
    let logs = s.logs.items in
    let log = c.index_mut.result.now in
    let within : c.args.file < length logs = omega (arith, c.requires, s.all, s.logs.ok.0) in
    let here : slice_get logs c.args.file ≡ Some log = get_here logs c.args.file log within c.index_mut.ensures.value in
    read_same logs c.args.file log c.sync.new.self within here c.sync.ensures.content

pub returns-clause-steps : goal.returns-clause-steps
returns-clause-steps c =
    let s = c.args.self.now in
    let logs = s.logs.items in
    let log = c.index_mut.result.now in
    let within : c.args.file < length logs = omega (arith, c.requires, s.all, s.logs.ok.0) in
    let here : slice_get logs c.args.file ≡ Some log = get_here logs c.args.file log within c.index_mut.ensures.value in
    steps_at s.past.items c.push.new.self.items c.of.result logs c.args.file log c.sync.new.self Any
    c.in_ok-push.ensures.items (ap (λ (v : Vec MemoryLog Global). v.items) c.of.ensures) within here
    (λ new may. (redone log.pending.items log.sure.value.items, may_read log.pending.items log.sure.value.items, tt))
