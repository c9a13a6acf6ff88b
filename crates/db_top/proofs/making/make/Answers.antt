use Rattle.std.proofs.Common.{sym, ◌∙◌}
use Rattle.db_top.proofs.Made.{makes_created, makes_refused}
use Rattle.doc_meaning.specs.History.{settings_of}
use Rattle.db_top.proofs.making.make.Goals as goal

pub returns-in-Ok : goal.returns-in-Ok
returns-in-Ok g c =
    let made = c.in-Ok.ensures in
    makes_created (settings_of c.args.settings) c.in-Ok.engine c.args.store c.close.result made.answers made.images
    made.later (sym c.close.ensures.disk) (c.close.ensures.yard ∙ made.yard)

pub returns-in-Err : goal.returns-in-Err
returns-in-Err g c =
    let refused = c.in-Err.ensures in
    makes_refused g.D.Disk (settings_of c.args.settings) c.args.store
    (record { disk = c.in-Err.refused.disk; yard = c.in-Err.refused.yard }) c.in-Err.refused.why
    c.from-status.result refused.answers refused.images refused.later refused.yard c.from-status.ensures
