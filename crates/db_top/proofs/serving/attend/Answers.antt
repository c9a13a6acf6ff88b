use Rattle.std.proofs.Common.{refl}
use Rattle.db_top.proofs.Attending.{serves_opened}
use Rattle.db_top.proofs.serving.attend.Goals as goal

pub returns-in-Ok : goal.returns-in-Ok
returns-in-Ok g c =
    let before = c.in-Ok.ensures in
    let during = c.serve-engine.ensures in
    serves_opened g.D.Disk g.Y.Yard g.I.Source g.O.Sink c.args.store c.args.client.now
    (record { source = c.serve-engine.new.source; sink = c.serve-engine.new.sink; port = c.args.client.now.port })
    c.in-Ok.engine c.serve-engine.result.0 c.serve-engine.result.1
    (record { directory = before.answers; shown = before.images; yard = before.yard; later = before.later })
    (record { lines = during.serves; yard = during.yard; later = during.later; port = refl })
    c.close.result c.from.result c.close.ensures.disk c.close.ensures.yard c.from.ensures
