-- Laws of the disk model.
use Rattle.std.specs.Prelude.{◌≡◌, ◌⊎◌, ℕ, ◌+◌, ◌<◌, ◌≤◌, List, length, slice_get}
use Rattle.disk_model.specs.Logs.{Image, written_at, Torn}
use Rattle.disk_model.specs.declared.disk.Disk

-- a write that was done is one that may be torn
abbrev pub WholeWritesAreTorn : Type 0
WholeWritesAreTorn = (old bytes : List ℕ) (place : ℕ) → Torn place (length bytes) old (written_at old place bytes)

-- a write, torn or not, changes no byte outside its range
abbrev pub OtherBytesStay : Type 0
OtherBytesStay = (old new : List ℕ) (place n k : ℕ) → Torn place n old new
    → k < length old → (k < place) ⊎ (place + n ≤ k) → slice_get new k ≡ slice_get old k

-- an image since a time, seen from the last state, was one already at the first, or one that a later state may leave
abbrev pub AddsUp : {D : Type 0} → Disk.Ghosts D → D → D → D → Type 0
AddsUp of_disk first middle last = (t : ℕ) (c : Image) → t ≤ of_disk.moment first → of_disk.left_since last t c
    → of_disk.left_since first t c ⊎ (of_disk.may_leave middle c ⊎ of_disk.may_leave last c)
