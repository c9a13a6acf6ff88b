use Rattle.std.proofs.Common.{ℕ, ◌+◌, ◌*◌, ◌<◌, ◌≤◌, nat_le, length, get_or, sym, ap, subst, ◌∙◌, arith}
use Rattle.std.specs.List.{filter}
use Rattle.std.specs.List.Sorted.{IsStrictlyIncreasing}
use Rattle.post_lists.proofs.Jumps.{increasing_drop, jumps}
use Rattle.post_lists.proofs.Skips.{kept_in}
use Rattle.post_lists.proofs.term_list.cursor.Cursor.jump.Goals as goal

pub returns-in-Some-clause-same : goal.returns-in-Some-clause-same
returns-in-Some-clause-same c =
    let i = c.self.inside in
    let items = i.list.now in
    let l = c.list.inside in
    let kept = kept_in l items c.list.view_is c.list.invariant in
    let k : ℕ = c.in-Some.found in
    let skip = c.index-skip.result.now in
    let lt : k < length l.skips.items = omega (arith, c.in-Some.ensures.there, ap length c.as_slice.ensures.value) in
    let at = kept.skipped.each k skip lt in
    let small : (get_or l.skips.items k skip).item < c.args.least =
    subst (λ skips. (get_or skips k skip).item < c.args.least) c.as_slice.ensures.value
    (c.in-Some.ensures.below skip) in
    let ahead : i.passed ≤ 128 * (k + 1) = omega (arith, c.in-Some.ensures.ahead) in
    ap (filter (nat_le c.args.least)) (c.self-in-Some.view_is ∙ c.at.ensures)
    ∙ jumps items i.passed (128 * (k + 1)) (get_or l.skips.items k skip).place (get_or l.skips.items k skip).item
    c.args.least
    kept.postings.rising ahead at small
    ∙ ap (filter (nat_le c.args.least)) c.self.view_is

pub returns-in-Some-clause-rising : goal.returns-in-Some-clause-rising
returns-in-Some-clause-rising c =
    subst IsStrictlyIncreasing (sym (c.self-in-Some.view_is ∙ c.at.ensures))
    (increasing_drop (128 * (c.in-Some.found + 1)) c.self.inside.list.now c.self.invariant.postings.rising)
