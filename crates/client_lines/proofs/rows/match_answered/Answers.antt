use Rattle.client_lines.specs.LineForms.{IsAnsweredText}
use Rattle.client_lines.proofs.RowTexts.{IsOfThese, answered_rows}
use Rattle.client_lines.proofs.OtherRows.{answered_there, answered_back}
use Rattle.client_lines.proofs.PrefixMatchLemmas.{goes_same}
use Rattle.client_lines.proofs.rows.match_answered.Goals as goal

pub returns : goal.returns
returns c =
    goes_same (IsOfThese answered_rows) IsAnsweredText c.args.line.now c.match_rows.result answered_there answered_back c.match_rows.ensures
