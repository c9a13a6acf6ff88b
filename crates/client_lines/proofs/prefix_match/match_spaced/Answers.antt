use Rattle.std.proofs.Common.{refl, ◌∷◌, [], ◌<◌, ℕ, arith, subst, List}
use Rattle.std.proofs.lemmas.List.{take_rest}
use Rattle.client_lines.specs.Rows.{IsLast, Behind, Matches}
use Rattle.client_lines.proofs.PrefixMatchLemmas.{goes_then, goes_none, space_opens, a_last}
use Rattle.client_lines.proofs.prefix_match.match_spaced.Goals as goal

pub returns-then-end-eq0 : goal.returns-then-end-eq0
returns-then-end-eq0 c =
    let text = a_last c.args.last in
    goes_none c.args.word_kind (Behind (0x20 ∷ []) (IsLast c.args.last)) c.args.bytes.now c.end-end.result c.stopped.result
    (record { most = c.end-end.ensures.most; is = c.end-end.ensures.is; longest = c.end-end.ensures.longest })
    c.if-end-eq0.true (0x20 ∷ text.0) (text.0, text.1, refl) c.stopped.ensures.count c.stopped.ensures.whole

pub returns : goal.returns
returns c =
    let some : 0 < c.end-end.result = omega (arith, c.if-end-eq0.false) in
    goes_then c.args.word_kind (Behind (0x20 ∷ []) (IsLast c.args.last)) c.args.bytes.now c.end-end.result
    c.behind_space.result c.after.result
    (record { most = c.end-end.ensures.most; is = c.end-end.ensures.is; longest = c.end-end.ensures.longest })
    (space_opens (IsLast c.args.last)) some
    (subst (λ (l : List ℕ). Matches (Behind (0x20 ∷ []) (IsLast c.args.last)) l c.behind_space.result)
    (take_rest c.args.bytes.now c.end-end.result) c.behind_space.ensures)
    c.after.ensures.count c.after.ensures.whole
