use Rattle.std.proofs.Common.{arith, ◌≡◌, ◌<◌, ◌+◌, ℕ, suc, length, take, subst}
use Rattle.disk_memory.specs.Changes.{MayHold}
use Rattle.disk_memory.proofs.ChangesLemmas.{may_step}
use Rattle.disk_memory.proofs.log.MemoryLog.left.Goals as goal

pub loop-k-preserved : goal.loop-k-preserved
loop-k-preserved c =
    let s = c.args.self.now in
    let changes = s.pending.items in
    let k = c.loop-k.k in
    let within : k < length changes = omega (arith, c.loop-k-test.true, c.len-k-end.ensures, s.pending.ok.0) in
    let next : suc k ≡ k + 1 = omega arith in
    subst (λ (j : ℕ). MayHold (take j changes) s.sure.value.items c.in_ok-bytes.bytes.items) next
    (may_step changes c.index.result.now k s.sure.value.items c.loop-k.bytes.items c.in_ok-bytes.bytes.items within
    c.index.ensures c.loop-k.invariant c.in_ok-bytes.ensures)
