use Rattle.std.proofs.Common.{Some, inr, refl, ap, string_bytes}
use Rattle.std.specs.Option.{option_map}
use Rattle.std.proofs.lemmas.Map.Text.{btree_map_updates_text}
use Rattle.disk_model.specs.declared.world.Store.{Store}
use Rattle.disk_memory.specs.declared.disk.MemoryDisk.{MemoryDisk}
use Rattle.disk_memory.specs.declared.yard.MemoryYard.{MemoryYard}
use Rattle.disk_memory.specs.declared.world.StoreSeat.{StoreSeat}
use Rattle.disk_memory.proofs.SeatsLemmas.{room, store_returns, same_directories, stands_there, others_stand}
use Rattle.disk_memory.proofs.world.calls.MemoryWorldWorld.put_store.Goals as goal

pub returns-then-not-lets-clause-back : goal.returns-then-not-lets-clause-back
returns-then-not-lets-clause-back c =
    let seats = c.args.self.now.store_seats.items in
    let n = c.args.self.now.stores_returned in
    let old = c.index_mut-seat.result.now in
    let seat : StoreSeat = record { directory = old.directory; out = old.out; back = Some c.of.result } in
    inr (store_returns seats n seat old c.args.store (room (λ (s : StoreSeat). option_map (λ b. b.value) s.back)
    (λ (s : StoreSeat). s.out.value) seats n c.requires) c.index_mut-seat.ensures.value refl
    (ap (λ (s : Store MemoryDisk MemoryYard). Some s) c.of.ensures))

pub returns-then-not-lets-clause-directories : goal.returns-then-not-lets-clause-directories
returns-then-not-lets-clause-directories c =
    let seats = c.args.self.now.store_seats.items in
    let n = c.args.self.now.stores_returned in
    let old = c.index_mut-seat.result.now in
    let seat : StoreSeat = record { directory = old.directory; out = old.out; back = Some c.of.result } in
    same_directories seats n seat old c.index_mut-seat.ensures.value refl

pub returns-in_default-clause-back : goal.returns-in_default-clause-back
returns-in_default-clause-back c =
    let seats = c.args.self.now.store_seats.items in
    let n = c.args.self.now.stores_returned in
    let old = c.index_mut-seat.result.now in
    let seat : StoreSeat = record { directory = old.directory; out = old.out; back = Some c.of.result } in
    inr (store_returns seats n seat old c.args.store (room (λ (s : StoreSeat). option_map (λ b. b.value) s.back)
    (λ (s : StoreSeat). s.out.value) seats n c.requires) c.index_mut-seat.ensures.value refl
    (ap (λ (s : Store MemoryDisk MemoryYard). Some s) c.of.ensures))

pub returns-in_default-clause-directories : goal.returns-in_default-clause-directories
returns-in_default-clause-directories c =
    let seats = c.args.self.now.store_seats.items in
    let n = c.args.self.now.stores_returned in
    let old = c.index_mut-seat.result.now in
    let seat : StoreSeat = record { directory = old.directory; out = old.out; back = Some c.of.result } in
    same_directories seats n seat old c.index_mut-seat.ensures.value refl

pub returns-in-Ok-insert-clause-back : goal.returns-in-Ok-insert-clause-back
returns-in-Ok-insert-clause-back c =
    let seats = c.args.self.now.store_seats.items in
    let n = c.args.self.now.stores_returned in
    let old = c.index_mut-seat.result.now in
    let seat : StoreSeat = record { directory = old.directory; out = old.out; back = Some c.of.result } in
    store_returns seats n seat old c.args.store (room (λ (s : StoreSeat). option_map (λ b. b.value) s.back)
    (λ (s : StoreSeat). s.out.value) seats n c.requires) c.index_mut-seat.ensures.value refl
    (ap (λ (s : Store MemoryDisk MemoryYard). Some s) c.of.ensures)

pub returns-in-Ok-insert-clause-directories : goal.returns-in-Ok-insert-clause-directories
returns-in-Ok-insert-clause-directories c =
    let seats = c.args.self.now.store_seats.items in
    let n = c.args.self.now.stores_returned in
    let old = c.index_mut-seat.result.now in
    let seat : StoreSeat = record { directory = old.directory; out = old.out; back = Some c.of.result } in
    same_directories seats n seat old c.index_mut-seat.ensures.value refl

pub returns-clause-back : goal.returns-clause-back
returns-clause-back c =
    let seats = c.args.self.now.store_seats.items in
    let n = c.args.self.now.stores_returned in
    let old = c.index_mut-seat.result.now in
    let seat : StoreSeat = record { directory = old.directory; out = old.out; back = Some c.of.result } in
    inr (store_returns seats n seat old c.args.store (room (λ (s : StoreSeat). option_map (λ b. b.value) s.back)
    (λ (s : StoreSeat). s.out.value) seats n c.requires) c.index_mut-seat.ensures.value refl
    (ap (λ (s : Store MemoryDisk MemoryYard). Some s) c.of.ensures))

pub returns-clause-directories : goal.returns-clause-directories
returns-clause-directories c =
    let seats = c.args.self.now.store_seats.items in
    let n = c.args.self.now.stores_returned in
    let old = c.index_mut-seat.result.now in
    let seat : StoreSeat = record { directory = old.directory; out = old.out; back = Some c.of.result } in
    same_directories seats n seat old c.index_mut-seat.ensures.value refl

pub returns-in-Ok-insert-clause-stored : goal.returns-in-Ok-insert-clause-stored
returns-in-Ok-insert-clause-stored c =
    let seats = c.args.self.now.store_seats.items in
    let n = c.args.self.now.stores_returned in
    let dir = string_bytes c.in-Ok.directory in
    let sets = btree_map_updates_text dir c.args.self.now.directories c.insert.new.self _
    c.in-Ok-insert.ensures.updates in
    let is_due = room (λ (s : StoreSeat). option_map (λ b. b.value) s.back) (λ (s : StoreSeat). s.out.value) seats n
    c.requires in
    stands_there seats n c.index_mut-seat.result.now dir c.args.self.now.directories c.insert.new.self c.args.store
    is_due c.index_mut-seat.ensures.value c.in-Ok.ensures.cases sets

pub returns-in-Ok-insert-clause-others : goal.returns-in-Ok-insert-clause-others
returns-in-Ok-insert-clause-others c =
    let seats = c.args.self.now.store_seats.items in
    let n = c.args.self.now.stores_returned in
    let dir = string_bytes c.in-Ok.directory in
    let sets = btree_map_updates_text dir c.args.self.now.directories c.insert.new.self _
    c.in-Ok-insert.ensures.updates in
    let is_due = room (λ (s : StoreSeat). option_map (λ b. b.value) s.back) (λ (s : StoreSeat). s.out.value) seats n
    c.requires in
    others_stand seats n c.index_mut-seat.result.now dir c.args.self.now.directories c.insert.new.self c.args.store
    is_due c.index_mut-seat.ensures.value c.in-Ok.ensures.cases sets
