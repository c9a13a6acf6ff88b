use Rattle.std.proofs.Common.{rules}
use Rattle.uri_table.proofs.Runs.{run_between, uri_tells}
use Rattle.uri_table.proofs.table.UriTable.find.Goals as goal

pub returns-clause-run : goal.returns-clause-run
returns-clause-run c =
    let tells = uri_tells c.as_bytes-uri.result.now in
    let run = run_between _ _ _ tells _ _ _ c.insertion_point.ensures c.end_of_uri.ensures in
    search rules
