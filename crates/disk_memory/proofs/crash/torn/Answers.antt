use Rattle.std.proofs.Common.{arith, ◌≡◌, ◌≤◌, ◌+◌, ◌++◌, length, take, drop}
use Rattle.std.proofs.lemmas.Grind.{common_steps}
use Rattle.std.proofs.lemmas.List.{length-take-le}
use Rattle.disk_memory.proofs.ChangesLemmas.{part_torn}
use Rattle.disk_memory.proofs.ResultLemmas.{if_ok}
use Rattle.disk_memory.proofs.crash.torn.Goals as goal

pub returns : goal.returns
returns c =
    let n = c.min-landed.result in
    let bytes = c.args.bytes.now in
    let le : n ≤ length bytes = omega (arith, c.min-landed.ensures) in
    if_ok c.replaced.result (λ v is.
    let is_now : v.items ≡ take c.args.place c.args.old.now ++ take n bytes ++ drop (c.args.place + n)
    c.args.old.now = grind (arith, common_steps, is) in
    part_torn c.args.place (length bytes) n (take n bytes) c.args.old.now v.items le (length-take-le n bytes le)
    is_now) c.replaced.ensures
