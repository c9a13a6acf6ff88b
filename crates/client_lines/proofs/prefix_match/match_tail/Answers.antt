use Rattle.std.proofs.Common.{subst, sym}
use Rattle.std.specs.Prelude.{Option}
use Rattle.client_lines.specs.Rows.{Matches, IsTail}
use Rattle.client_lines.specs.declared.row.WordKind.{WordKind}
use Rattle.client_lines.proofs.prefix_match.match_tail.Goals as goal

pub returns-in-None : goal.returns-in-None
returns-in-None c =
    subst (λ (m : Option WordKind). Matches (IsTail m c.args.last) c.args.bytes.now c.match_last.result)
    (sym c.in-None.is) c.match_last.ensures
