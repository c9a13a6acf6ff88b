use Rattle.std.proofs.Common.{sym, subst}
use Rattle.doc_meaning.specs.History.{settings_of}
use Rattle.doc_engine.proofs.Created.{creates}
use Rattle.doc_engine.proofs.Opened.{if_some, none_by}
use Rattle.doc_engine.specs.Created.{CreatedBy}
use Rattle.doc_engine.specs.Opening.{KeepsUntilCreated}
use Rattle.doc_engine.specs.declared.found.Found.{Found}
use Rattle.doc_engine.proofs.engine.Engine.create.Goals as goal

pub holding-requires-clause-stamps : goal.holding-requires-clause-stamps
holding-requires-clause-stamps g c κs within =
    subst (λ (f : Found). CreatedBy f.restored.front f.restored.live) (sym c.new.ensures) (none_by 0)

pub returns-in-Ok-clause-answers : goal.returns-in-Ok-clause-answers
returns-in-Ok-clause-answers g c =
    let is = c.holding.ensures in
    record {
      up = is.up;
      creates = if_some (g.D.Disk.seen c.args.disk) c.in-Ok.ensures.made.made (λ image made. (
        made.0,
        creates c.args.settings c.make.new.disk c.in-Ok.journal c.new.result c.new.ensures c.holding.result is.disk
            is.journal is.read made.1,
      ));
    }

pub returns-in-Ok-clause-images : goal.returns-in-Ok-clause-images
returns-in-Ok-clause-images g c =
    subst (KeepsUntilCreated g.D.Disk (settings_of c.args.settings) c.args.disk) (sym c.holding.ensures.disk)
    (record { images = c.in-Ok.ensures.images; used = c.in-Ok.ensures.used })
