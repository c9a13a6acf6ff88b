use Rattle.std.proofs.Common.{take}
use Rattle.client_lines.specs.Rows.{MatchesSome, IsOfSome}
use Rattle.client_lines.proofs.prefix_match.match_rows.Given as goal

abbrev pub invariant-loop-row : goal.invariant-loop-row
invariant-loop-row l = MatchesSome (IsOfSome (take l.row-index l.rows)) l.line l.prefix_match
