use Rattle.std.proofs.Common.{ℕ, List, ◌-◌, drop, length, length-drop, ap, sym, ◌∙◌, arith}
use Rattle.std.proofs.lemmas.List.{take_all}
use Rattle.std.specs.List.{starts_with}
use Rattle.std.specs.Str.{bytes_eq}
use Rattle.std.proofs.lemmas.Grind.{common_steps}
use Rattle.doc_meaning.proofs.PositionLemmas.{filter_range_push}
use Rattle.doc_filter.proofs.RunLemmas.{some_there, occur_here}
use Rattle.doc_filter.proofs.word_runs.occur_in.Goals as goal

pub loop-j-preserved : goal.loop-j-preserved
loop-j-preserved c = grind (arith, common_steps, filter_range_push)

pub returns-then-starts_with : goal.returns-then-starts_with
returns-then-starts_with c =
    let wanted = c.args.wanted.now in
    let seen = c.args.seen.now in
    let j = c.loop-j.j in
    let whole = take_all (length seen - j) (drop j seen) (omega (arith, length-drop j seen)) in
    occur_here wanted seen j (some_there (length wanted) c.is_empty.result c.is_empty.ensures c.if-is_empty.false)
    (omega arith)
    (ap (λ (ws : List (List ℕ)). starts_with bytes_eq ws wanted) (sym whole)
    ∙ sym c.starts_with.ensures.value ∙ c.if-starts_with.true)
