use Rattle.std.proofs.Common.{arith, ◌≡◌, ◌<◌, ◌+◌, ◌-◌, ℕ, List, suc, length, take, ap, ◌∙◌}
use Rattle.disk_memory.specs.Changes.{undo, undone}
use Rattle.disk_memory.proofs.ChangesLemmas.{undone_step}
use Rattle.disk_memory.proofs.crash.before_all.Goals as goal

pub loop-k-preserved : goal.loop-k-preserved
loop-k-preserved c =
    let changes = c.args.changes.now in
    let change = c.index-changes-changes.result in
    let k = c.loop-k.k in
    let m = length changes - 1 - k in
    let within : m < length changes = omega (arith, c.loop-k-test.true) in
    let here : length changes - (k + 1) ≡ m = omega arith in
    let next : suc m ≡ length changes - k = omega (arith, c.loop-k-test.true) in
    ap (λ (b : List ℕ). undone (take (length changes - (k + 1)) changes) b) c.in_ok-bytes-2.ensures
    ∙ (ap (λ (j : ℕ). undone (take j changes) (undo change c.loop-k.bytes.items)) here
    ∙ (undone_step changes change m c.loop-k.bytes.items within c.index-changes-changes.is
    ∙ (ap (λ (j : ℕ). undone (take j changes) c.loop-k.bytes.items) next ∙ c.loop-k.invariant)))
