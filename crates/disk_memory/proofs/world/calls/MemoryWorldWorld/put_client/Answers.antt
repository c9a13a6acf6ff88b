use Rattle.std.proofs.Common.{Some, inr, refl}
use Rattle.disk_memory.specs.declared.world.ClientSeat.{ClientSeat}
use Rattle.disk_memory.proofs.SeatsLemmas.{room, client_returns}
use Rattle.disk_memory.proofs.world.calls.MemoryWorldWorld.put_client.Goals as goal

pub returns-then-not-lets-clause-back : goal.returns-then-not-lets-clause-back
returns-then-not-lets-clause-back c =
    let seats = c.args.self.now.client_seats.items in
    let n = c.args.self.now.clients_returned in
    let old = c.index_mut-seat.result.now in
    let seat : ClientSeat = record { out = old.out; back = Some c.args.client } in
    inr (client_returns seats n seat old (room (λ (s : ClientSeat). s.back) (λ (s : ClientSeat). s.out.value) seats n
    c.requires) c.index_mut-seat.ensures.value refl)

pub returns-clause-back : goal.returns-clause-back
returns-clause-back c =
    let seats = c.args.self.now.client_seats.items in
    let n = c.args.self.now.clients_returned in
    let old = c.index_mut-seat.result.now in
    let seat : ClientSeat = record { out = old.out; back = Some c.args.client } in
    client_returns seats n seat old (room (λ (s : ClientSeat). s.back) (λ (s : ClientSeat). s.out.value) seats n
    c.requires) c.index_mut-seat.ensures.value refl
