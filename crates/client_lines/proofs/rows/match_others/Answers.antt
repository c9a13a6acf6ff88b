use Rattle.std.proofs.Common.{◌<◌}
use Rattle.client_lines.specs.LineForms.{IsLaterText}
use Rattle.client_lines.proofs.RowTexts.{IsOfThese, other_rows}
use Rattle.client_lines.proofs.OtherRows.{others_there, others_back}
use Rattle.client_lines.proofs.PrefixMatchLemmas.{goes_same}
use Rattle.client_lines.proofs.rows.match_others.Goals as goal

pub returns : goal.returns
returns c =
    goes_same (IsOfThese other_rows) (IsLaterText (λ n. n < 2)) c.args.line.now c.match_rows.result others_there others_back c.match_rows.ensures
