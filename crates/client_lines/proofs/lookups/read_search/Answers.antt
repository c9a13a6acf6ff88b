use Rattle.cts_text.specs.Answers.{RefusesQueryText}
use Rattle.cts_text.specs.declared.bad.QueryTextBad.TheVariants.{Shape}
use Rattle.client_lines.proofs.CommandLemmas.{query_refused, search_refused}
use Rattle.client_lines.proofs.lookups.read_search.Goals as goal

pub returns-in-Err-Json : goal.returns-in-Err-Json
returns-in-Err-Json c =
    search_refused c.args.line.now c.args.json.now c.bad_json.result c.requires c.bad_json.ensures

pub returns-in-Err-Shape : goal.returns-in-Err-Shape
returns-in-Err-Shape c =
    let found : RefusesQueryText c.args.json.now (Shape c.in-Err-Shape.node) =
    rw c.in-Err-Shape.field-0-is at c.in-Err-Shape.ensures.refused in
    query_refused c.args.line.now c.args.json.now found.0 c.in-Err-Shape.node c.requires found.1 found.2
