use Rattle.std.proofs.Common.{sym, ◌∙◌}
use Rattle.db_top.proofs.Checked.{checks_opened, checks_refused}
use Rattle.db_top.proofs.checking.check.Goals as goal

pub returns-in-Ok : goal.returns-in-Ok
returns-in-Ok g c =
    let opened = c.in-Ok.ensures in
    checks_opened c.in-Ok.engine c.summary-line.result.bytes
    (λ merge h at. c.summary-line.ensures merge h (c.look.ensures merge h at)) c.args.store c.close.result
    opened.answers opened.images opened.yard opened.later (sym c.close.ensures.disk)
    (c.close.ensures.yard ∙ opened.yard)

pub returns-in-Err : goal.returns-in-Err
returns-in-Err g c =
    let refused = c.in-Err.ensures in
    checks_refused g.D.Disk g.Y.Yard c.args.store
    (record { disk = c.in-Err.refused.disk; yard = c.in-Err.refused.yard }) c.in-Err.refused.why c.new.result.bytes
    c.from-status.result refused.answers refused.images refused.later refused.yard c.from-status.ensures
