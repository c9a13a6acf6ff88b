use Rattle.std.proofs.Common.{ℕ, ◌≡◌, ◌+◌, ◌-◌, take, drop, ap, ◌∙◌, arith, length-drop}
use lib.Seq.{paste}
use Rattle.std.proofs.lemmas.List.Edits.{take-paste}
use Rattle.client_run.proofs.Windows.{window}
use Rattle.client_run.proofs.reader.move_to_front.Goals as goal

pub returns-clause-moved : goal.returns-clause-moved
returns-clause-moved c =
    let all = c.args.buffer.now.items in
    let from = c.args.from in
    let n : ℕ = c.args.to - from in
    let same : n ≡ 0 + n = omega arith in
    ap (take n) c.copy_within.ensures.items ∙ (ap (λ k. take k (paste all 0 (drop from all) n)) same
    ∙ (take-paste all 0 (drop from all) n (omega (arith, c.requires, c.args.buffer.now.ok.0))
    (omega (arith, c.requires, c.args.buffer.now.ok.0, length-drop from all)) ∙ window from c.args.to all
    c.requires.order))
