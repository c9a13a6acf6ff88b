use Rattle.std.proofs.Common.{inl}
use Rattle.db_top.proofs.Lending.{lends_client, loses_client, rose_since}
use Rattle.db_top.specs.Serving.{ServesStore}
use Rattle.db_top.proofs.serving.with_client.Goals as goal

pub returns-in-Ok-put_client-clause-serves : goal.returns-in-Ok-put_client-clause-serves
returns-in-Ok-put_client-clause-serves g c =
    inl (lends_client g.W.Disk.Disk g.W.Yard.Yard g.W.Source.Source g.W.Sink.Sink g.W.World c.args.world.now
    c.client.new.self c.put_client.new.self c.in-Ok.client c.attend-store.new.client c.in-Ok.ensures.out
    (ServesStore g.W.Disk.Disk g.W.Yard.Yard g.W.Source.Source g.W.Sink.Sink c.args.store c.attend-store.result.0)
    c.attend-store.result.1 c.attend-store.ensures c.in-Ok-put_client.ensures.back)

pub returns-in-Err-clause-serves : goal.returns-in-Err-clause-serves
returns-in-Err-clause-serves g c =
    rw c.lost.ensures
    (inl (loses_client g.W.Disk.Disk g.W.Yard.Yard g.W.Source.Source g.W.Sink.Sink g.W.World c.args.world.now
    c.client.new.self c.put_client.new.self c.in-Ok.client c.attend-store.new.client c.in-Ok.ensures.out
    (ServesStore g.W.Disk.Disk g.W.Yard.Yard g.W.Source.Source g.W.Sink.Sink c.args.store c.attend-store.result.0)
    c.attend-store.result.1 c.attend-store.ensures c.in-Err.ensures.back
    (rose_since (g.W.World.faults c.args.world.now) (g.W.World.faults c.client.new.self)
    (g.W.World.faults c.put_client.new.self) c.in-Ok.ensures.cause.later
    c.in-Err.ensures.cause.failed)))
