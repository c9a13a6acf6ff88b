use Rattle.std.proofs.Common.{rules}
use Rattle.uri_table.proofs.Runs.{head_tells, run_between}
use Rattle.uri_table.proofs.table.UriTable.prefix_range.Goals as goal

pub returns-clause-run : goal.returns-clause-run
returns-clause-run c =
    let tells = head_tells c.as_bytes-prefix.result.now in
    let run = run_between _ _ _ tells _ _ _ c.insertion_point.ensures c.end_of_prefix.ensures in
    search rules
