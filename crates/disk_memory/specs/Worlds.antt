-- What a world in memory handed out and took back.
use Rattle.std.specs.Prelude.{ℕ, List, [], Option, Some, map, take, string_bytes}
use Rattle.std.specs.Option.{option_map}
use Rattle.std.specs.BTreeMap.{get_by_text}
use Rattle.disk_model.specs.Worlds.{Handed, directory_due}
use Rattle.disk_model.specs.declared.world.Client.{Client}
use Rattle.disk_model.specs.declared.world.Store.{Store}
use Rattle.disk_memory.specs.declared.disk.MemoryDisk.{MemoryDisk}
use Rattle.disk_memory.specs.declared.yard.MemoryYard.{MemoryYard}
use Rattle.disk_memory.specs.declared.port.MemoryPort.{MemoryPort}
use Rattle.disk_memory.specs.declared.streams.MemorySource.{MemorySource}
use Rattle.disk_memory.specs.declared.streams.MemorySink.{MemorySink}
use Rattle.disk_memory.specs.declared.world.ClientSeat.{ClientSeat}
use Rattle.disk_memory.specs.declared.world.StoreSeat.{StoreSeat}
use Rattle.disk_memory.specs.declared.world.MemoryWorld.{MemoryWorld}

-- the clients of these seats, of which so many came back
abbrev pub seated_clients : List ClientSeat → ℕ → Handed (Client MemorySource MemorySink MemoryPort)
seated_clients seats returned =
    record { out = map (λ s. s.out.value) seats; back = map (λ s. s.back) (take returned seats) }

-- the stores of these seats, of which so many came back
abbrev pub seated_stores : List StoreSeat → ℕ → Handed (Store MemoryDisk MemoryYard)
seated_stores seats returned =
    record {
      out = map (λ s. s.out.value) seats;
      back = map (λ s. option_map (λ b. b.value) s.back) (take returned seats);
    }

-- the directories of these seats
abbrev pub seated_directories : List StoreSeat → List (List ℕ)
seated_directories seats = map (λ s. string_bytes s.directory) seats

-- the clients that a world handed out, of which so many came back
abbrev pub clients_of : MemoryWorld → Handed (Client MemorySource MemorySink MemoryPort)
clients_of world = seated_clients world.client_seats.items world.clients_returned

-- the stores that a world handed out, of which so many came back
abbrev pub stores_of : MemoryWorld → Handed (Store MemoryDisk MemoryYard)
stores_of world = seated_stores world.store_seats.items world.stores_returned

-- their directories
abbrev pub directories_of : MemoryWorld → List (List ℕ)
directories_of world = seated_directories world.store_seats.items

-- the store in a directory
abbrev pub stored_in : MemoryWorld → List ℕ → Option (Option (Store MemoryDisk MemoryYard))
stored_in world dir = Some (get_by_text world.directories dir)

-- the directory of the first store that was not yet put back
abbrev pub due_in : MemoryWorld → Option (List ℕ)
due_in world = directory_due (stores_of world) (directories_of world)

-- nothing was handed out or put back
abbrev pub none_handed : {A : Type 0} → Handed A
none_handed = record { out = []; back = [] }
