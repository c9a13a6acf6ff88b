use Rattle.std.proofs.Common.{inl, refl}
use Rattle.db_top.proofs.Lending.{lends_store, loses_store, rose_since}
use Rattle.db_top.specs.Making.{Makes}
use Rattle.doc_meaning.specs.History.{settings_of}
use Rattle.db_top.proofs.making.make_directory.Goals as goal

pub returns-in-Ok-put_store-clause-makes : goal.returns-in-Ok-put_store-clause-makes
returns-in-Ok-put_store-clause-makes g c =
    let took = c.in-Ok.ensures in
    let put = c.in-Ok-put_store.ensures in
    record {
      makes = inl (lends_store g.W.Disk.Disk g.W.Yard.Yard g.W.Source.Source g.W.Sink.Sink g.W.World
          c.args.directory.now c.args.world.now c.take_store.new.self c.take_store.new.self c.put_store.new.self
          c.in-Ok.store c.requires.idle
          (record {
            out = took.out;
            named = took.directory;
            was_stored = took.was_stored;
            blank = took.blank;
            others = took.others;
          })
          (record { stores = refl; directories = refl; stored = refl })
          (Makes g.W.Disk.Disk (settings_of c.args.settings))
          c.make-store.result.0 c.make-store.result.1 c.make-store.ensures
          (record { back = put.back; directories = put.directories; others = put.others }) put.stored);
      clients = cc;
    }

pub returns-in-Err-clause-makes : goal.returns-in-Err-clause-makes
returns-in-Err-clause-makes g c =
    let took = c.in-Ok.ensures in
    let put = c.in-Err.ensures in
    rw c.lost.ensures (record {
      makes = inl (loses_store g.W.Disk.Disk g.W.Yard.Yard g.W.Source.Source g.W.Sink.Sink g.W.World
          c.args.directory.now c.args.world.now c.take_store.new.self c.take_store.new.self c.put_store.new.self
          c.in-Ok.store c.requires.idle
          (record {
            out = took.out;
            named = took.directory;
            was_stored = took.was_stored;
            blank = took.blank;
            others = took.others;
          })
          (record { stores = refl; directories = refl; stored = refl })
          (Makes g.W.Disk.Disk (settings_of c.args.settings))
          c.make-store.result.0 c.make-store.result.1 c.make-store.ensures
          put.directories put.others put.back (rose_since (g.W.World.faults c.args.world.now)
          (g.W.World.faults c.take_store.new.self) (g.W.World.faults c.put_store.new.self) took.cause.later
          put.cause.failed));
      clients = cc;
    })
