use Rattle.std.proofs.Common.{map, refl}
use Rattle.doc_engine.proofs.Opened.{finds, if_some, restored_by}
use Rattle.doc_engine.proofs.opening.find.Goals as goal

pub returns-clause-found : goal.returns-clause-found
returns-clause-found g c =
    if_some (g.D.Disk.seen c.args.disk.now) c.in_ok-journal.ensures.opened.found
    (λ image opened files. finds g.D.Disk files image c.scan_all.new.disk c.in_ok-journal.journal
    c.in_ok-journal.scanned (opened files) c.in_ok-restored.restored c.in_ok-restored.ensures _ refl refl refl)

pub returns-clause-stamps : goal.returns-clause-stamps
returns-clause-stamps g c = restored_by c.in_ok-journal.scanned.root.checkpoint c.in_ok-journal.scanned.root.merge
    (map (λ e. e.1) c.in_ok-journal.scanned.entries.items) c.in_ok-restored.restored c.in_ok-restored.ensures
