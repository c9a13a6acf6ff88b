use Rattle.std.proofs.Common.{◌∷◌, []}
use Rattle.client_lines.specs.Rows.{IsLast}
use Rattle.client_lines.proofs.PrefixMatchLemmas.{goes_behind, goes_spaceless, a_last}
use Rattle.client_lines.proofs.prefix_match.behind_space.Goals as goal

pub returns-in-Some : goal.returns-in-Some
returns-in-Some c =
    goes_behind (IsLast c.args.last) (0x20 ∷ []) c.in-Some.rest.now c.args.bytes.now c.match_last.result c.after.result
    c.in-Some.ensures c.match_last.ensures c.after.ensures.count c.after.ensures.whole

pub returns-in-None : goal.returns-in-None
returns-in-None c =
    let text = a_last c.args.last in
    goes_spaceless (IsLast c.args.last) c.args.bytes.now c.stopped.result text.0 text.1 c.in-None.ensures
    c.stopped.ensures.count c.stopped.ensures.whole
