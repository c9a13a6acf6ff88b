use Rattle.std.proofs.Common.{◌≡◌, ◌+◌, ℕ, arith, subst, sym, take, drop, List, ◌++◌, ap, ◌∙◌, length}
use Rattle.std.proofs.lemmas.List.{take_rest, take-append-drop, take_all}
use Rattle.client_lines.specs.Rows.{IsTail, Matches}
use Rattle.client_lines.proofs.PrefixMatchLemmas.{goes_left, goes_behind, a_tail}
use Rattle.client_lines.proofs.prefix_match.match_row.Goals as goal

pub returns-then-same-row : goal.returns-then-same-row
returns-then-same-row c =
    let row = c.args.row.now in
    let text = a_tail row.middle row.last in
    let e = c.common_len-same.ensures in
    goes_left (IsTail row.middle row.last) row.head.now c.args.line.now c.common_len-same.result c.stopped.result
    text.0 text.1 c.if-same-row.true (omega (arith, e.within)) e.same (e.stop c.if-same-row.true)
    c.stopped.ensures.count c.stopped.ensures.whole

pub returns : goal.returns
returns c =
    let row = c.args.row.now in
    let e = c.common_len-same.ensures in
    let at : c.common_len-same.result ≡ length row.head.now = omega (arith, e.within, c.if-same-row.false) in
    let head : take c.common_len-same.result c.args.line.now ≡ row.head.now =
    e.same ∙ take_all c.common_len-same.result row.head.now (omega arith) in
    let rest = drop c.common_len-same.result c.args.line.now in
    let is : c.args.line.now ≡ row.head.now ++ rest =
    sym (take-append-drop c.common_len-same.result c.args.line.now) ∙ ap (λ (l : List ℕ). l ++ rest) head in
    goes_behind (IsTail row.middle row.last) row.head.now rest c.args.line.now c.match_tail.result c.after.result is
    (subst (λ (l : List ℕ). Matches (IsTail row.middle row.last) l c.match_tail.result)
    (take_rest c.args.line.now c.common_len-same.result) c.match_tail.ensures)
    (c.after.ensures.count ∙ ap (λ (k : ℕ). k + c.match_tail.result.count) at) c.after.ensures.whole
