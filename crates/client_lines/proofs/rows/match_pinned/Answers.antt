use Rattle.std.proofs.Common.{◌≡◌}
use Rattle.client_lines.specs.LineForms.{IsLaterText}
use Rattle.client_lines.proofs.RowTexts.{IsOfThese, pinned_rows}
use Rattle.client_lines.proofs.FormRows.{pinned_there, pinned_back}
use Rattle.client_lines.proofs.PrefixMatchLemmas.{goes_same}
use Rattle.client_lines.proofs.rows.match_pinned.Goals as goal

pub returns : goal.returns
returns c =
    goes_same (IsOfThese pinned_rows) (IsLaterText (λ n. n ≡ 2)) c.args.line.now c.match_rows.result pinned_there pinned_back c.match_rows.ensures
