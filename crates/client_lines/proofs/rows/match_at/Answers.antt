use Rattle.std.proofs.Common.{◌≡◌}
use Rattle.client_lines.specs.LineForms.{IsLaterText}
use Rattle.client_lines.proofs.RowTexts.{IsOfThese, at_rows}
use Rattle.client_lines.proofs.FormRows.{at_there, at_back}
use Rattle.client_lines.proofs.PrefixMatchLemmas.{goes_same}
use Rattle.client_lines.proofs.rows.match_at.Goals as goal

pub returns : goal.returns
returns c =
    goes_same (IsOfThese at_rows) (IsLaterText (λ n. n ≡ 3)) c.args.line.now c.match_rows.result at_there at_back c.match_rows.ensures
