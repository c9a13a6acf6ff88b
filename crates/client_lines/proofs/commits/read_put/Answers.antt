use Rattle.std.proofs.Common.{refl}
use Rattle.std.proofs.lemmas.Result.{err_from_is_err_and}
use Rattle.transcript.specs.Forms as form
use Rattle.client_lines.proofs.CommandLemmas.{put_made, put_refused, uri_refused}
use Rattle.client_lines.proofs.commits.read_put.Goals as goal

pub returns-in_err-check_uri : goal.returns-in_err-check_uri
returns-in_err-check_uri c =
    let p = err_from_is_err_and c.from_residual.result c.from_residual.ensures.1 in
    let broken = c.in_err-check_uri.ensures.refused in
    rw (p.1, p.2) (uri_refused c.args.line.now (form.put c.args.uri.now c.args.json.now) 4 c.args.uri.now
    c.in_err-check_uri.field-0.0 c.requires refl refl broken.0 broken.1)

pub returns-in-Ok : goal.returns-in-Ok
returns-in-Ok c =
    put_made c.args.line.now c.args.uri.now c.args.json.now c.in-Ok.root c.put.result c.requires
    c.in_ok-check_uri.ensures.kept c.in-Ok.ensures.found c.put.ensures

pub returns-in-Err : goal.returns-in-Err
returns-in-Err c =
    put_refused c.args.line.now c.args.uri.now c.args.json.now c.bad_json.result c.requires
    c.in_ok-check_uri.ensures.kept c.bad_json.ensures
