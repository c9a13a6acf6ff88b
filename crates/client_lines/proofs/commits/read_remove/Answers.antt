use Rattle.std.proofs.Common.{refl}
use Rattle.std.proofs.lemmas.Result.{err_from_is_err_and}
use Rattle.transcript.specs.Forms as form
use Rattle.client_lines.proofs.CommandLemmas.{uri_refused}
use Rattle.client_lines.proofs.commits.read_remove.Goals as goal

pub returns-in_err-check_uri : goal.returns-in_err-check_uri
returns-in_err-check_uri c =
    let p = err_from_is_err_and c.from_residual.result c.from_residual.ensures.1 in
    let broken = c.in_err-check_uri.ensures.refused in
    rw (p.1, p.2) (uri_refused c.args.line.now (form.remove c.args.uri.now) 7 c.args.uri.now
    c.in_err-check_uri.field-0.0 c.requires refl refl broken.0 broken.1)
