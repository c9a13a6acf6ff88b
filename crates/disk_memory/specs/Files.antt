-- Builds and yards in memory.
use Rattle.std.specs.Prelude.{ℕ, List, Option, Some, None}
use Rattle.std.proofs.Common.{Bor}
use Rattle.disk_model.specs.Files.{Slot, nothing}
use Rattle.disk_memory.specs.declared.build.Content.{Content}
use Rattle.disk_memory.specs.declared.build.Content.TheVariants.{Open, Sealed}
use Rattle.disk_memory.specs.declared.yard.Entry.{Entry}

-- the bytes that a build was given
abbrev pub given_of : Content → List ℕ
given_of (Open bytes) = bytes.items
given_of (Sealed bytes) = bytes.now

abbrev pub sealed_of : Option (Bor (List ℕ)) → Option (List ℕ)
sealed_of None = None
sealed_of (Some bytes) = Some bytes.now

-- what an entry of a yard says of its number
abbrev pub slot_of : Option Entry → Slot
slot_of None = nothing
slot_of (Some entry) = record { sealed = sealed_of entry.sealed; mark = entry.mark }
