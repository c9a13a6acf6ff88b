use Rattle.client_lines.proofs.PrefixMatchLemmas.{goes_one_more}
use Rattle.client_lines.proofs.prefix_match.match_rows.Goals as goal

pub loop-row-preserved : goal.loop-row-preserved
loop-row-preserved c =
    goes_one_more c.args.rows.now c.loop-row.row-index _ c.args.line.now c.loop-row.prefix_match c.match_row.result
    c.or-prefix_match.result c.loop-row-test.true c.loop-row.invariant c.match_row.ensures c.or-prefix_match.ensures.count
    c.or-prefix_match.ensures.whole
