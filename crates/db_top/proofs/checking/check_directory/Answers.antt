use Rattle.std.proofs.Common.{inl, refl}
use Rattle.db_top.proofs.Lending.{lends_store, loses_store, rose_since}
use Rattle.db_top.specs.Checking.{Checks}
use Rattle.db_top.proofs.checking.check_directory.Goals as goal

pub returns-in-Ok-put_store-clause-checks : goal.returns-in-Ok-put_store-clause-checks
returns-in-Ok-put_store-clause-checks g c =
    let took = c.in-Ok.ensures in
    let put = c.in-Ok-put_store.ensures in
    record {
      checks = inl (lends_store g.W.Disk.Disk g.W.Yard.Yard g.W.Source.Source g.W.Sink.Sink g.W.World
          c.args.directory.now c.args.world.now c.take_store.new.self c.take_store.new.self c.put_store.new.self
          c.in-Ok.store c.requires
          (record {
            out = took.out;
            named = took.directory;
            was_stored = took.was_stored;
            blank = took.blank;
            others = took.others;
          })
          (record { stores = refl; directories = refl; stored = refl })
          (Checks g.W.Disk.Disk g.W.Yard.Yard c.check-store.result.1.bytes)
          c.check-store.result.0 c.check-store.result.2 c.check-store.ensures
          (record { back = put.back; directories = put.directories; others = put.others }) put.stored);
      clients = cc;
    }

pub returns-in-Err-clause-checks : goal.returns-in-Err-clause-checks
returns-in-Err-clause-checks g c =
    let took = c.in-Ok.ensures in
    let put = c.in-Err.ensures in
    rw c.lost.ensures (record {
      checks = inl (loses_store g.W.Disk.Disk g.W.Yard.Yard g.W.Source.Source g.W.Sink.Sink g.W.World
          c.args.directory.now c.args.world.now c.take_store.new.self c.take_store.new.self c.put_store.new.self
          c.in-Ok.store c.requires
          (record {
            out = took.out;
            named = took.directory;
            was_stored = took.was_stored;
            blank = took.blank;
            others = took.others;
          })
          (record { stores = refl; directories = refl; stored = refl })
          (Checks g.W.Disk.Disk g.W.Yard.Yard c.check-store.result.1.bytes)
          c.check-store.result.0 c.check-store.result.2 c.check-store.ensures
          put.directories put.others put.back (rose_since (g.W.World.faults c.args.world.now)
          (g.W.World.faults c.take_store.new.self) (g.W.World.faults c.put_store.new.self) took.cause.later
          put.cause.failed));
      clients = cc;
    })
