use Rattle.std.proofs.Common.{inl}
use Rattle.db_top.proofs.Lending.{lends_store, loses_store, rose_since}
use Rattle.db_top.proofs.Widening.{serves_client_over}
use Rattle.db_top.specs.Runs.{ServesClient}
use Rattle.db_top.proofs.serving.serve_directory.Goals as goal

pub returns-in-Ok-put_store-clause-serves : goal.returns-in-Ok-put_store-clause-serves
returns-in-Ok-put_store-clause-serves g c =
    let took = c.in-Ok.ensures in
    let during = c.with_client-store.ensures in
    let put = c.in-Ok-put_store.ensures in
    inl (lends_store g.W.Disk.Disk g.W.Yard.Yard g.W.Source.Source g.W.Sink.Sink g.W.World c.args.directory.now
    c.args.world.now c.take_store.new.self c.with_client-store.new.world c.put_store.new.self c.in-Ok.store c.requires
    (record {
      out = took.out;
      named = took.directory;
      was_stored = took.was_stored;
      blank = took.blank;
      others = took.others;
    })
    during.still
    (ServesClient g.W.Disk.Disk g.W.Yard.Yard g.W.Source.Source g.W.Sink.Sink g.W.World c.args.world.now
    c.put_store.new.self)
    c.with_client-store.result.0 c.with_client-store.result.1
    (serves_client_over g.W.Disk.Disk g.W.Yard.Yard g.W.Source.Source g.W.Sink.Sink g.W.World c.args.world.now
    c.take_store.new.self c.with_client-store.new.world c.put_store.new.self c.in-Ok.store
    c.with_client-store.result.0 c.with_client-store.result.1 took.cause.later put.cause.later took.clients put.clients
    during.serves)
    (record { back = put.back; directories = put.directories; others = put.others }) put.stored)

pub returns-in-Err-clause-serves : goal.returns-in-Err-clause-serves
returns-in-Err-clause-serves g c =
    let took = c.in-Ok.ensures in
    let during = c.with_client-store.ensures in
    let put = c.in-Err.ensures in
    rw c.lost.ensures
    (inl (loses_store g.W.Disk.Disk g.W.Yard.Yard g.W.Source.Source g.W.Sink.Sink g.W.World c.args.directory.now
    c.args.world.now c.take_store.new.self c.with_client-store.new.world c.put_store.new.self c.in-Ok.store c.requires
    (record {
      out = took.out;
      named = took.directory;
      was_stored = took.was_stored;
      blank = took.blank;
      others = took.others;
    })
    during.still
    (ServesClient g.W.Disk.Disk g.W.Yard.Yard g.W.Source.Source g.W.Sink.Sink g.W.World c.args.world.now
    c.put_store.new.self)
    c.with_client-store.result.0 c.with_client-store.result.1
    (serves_client_over g.W.Disk.Disk g.W.Yard.Yard g.W.Source.Source g.W.Sink.Sink g.W.World c.args.world.now
    c.take_store.new.self c.with_client-store.new.world c.put_store.new.self c.in-Ok.store
    c.with_client-store.result.0 c.with_client-store.result.1 took.cause.later put.cause.later took.clients put.clients
    during.serves)
    put.directories put.others put.back
    (rose_since (g.W.World.faults c.args.world.now) (g.W.World.faults c.take_store.new.self)
    (g.W.World.faults c.put_store.new.self) took.cause.later
    (rose_since (g.W.World.faults c.take_store.new.self) (g.W.World.faults c.with_client-store.new.world)
    (g.W.World.faults c.put_store.new.self) during.later put.cause.failed))))
