-- Replies on their way to a sink, and how a session ends with the last of them.
use Rattle.std.specs.Prelude.{ℕ, ◌≡◌, ◌<◌, ◌≤◌, ◌⊎◌, List, ◌++◌, length, take, Option, Result, Ok, Err}
use Rattle.std.specs.Io.KnownBytes.{Appends}
use Rattle.disk_model.specs.Causes.{Rose}
use Rattle.transcript.specs.declared.session_end.SessionEnd.{SessionEnd}
use Rattle.transcript.specs.declared.session_end.SessionEnd.TheVariants.{WriteFault}

-- bytes came behind those that wait, and the first of all went to the sink: all that aren't there wait still
abbrev pub Moves : List ℕ → List ℕ → Option (List ℕ) → Option (List ℕ) → List ℕ → Type 0
Moves waits waits' written written' bytes = (out : List ℕ) × Appends written written' out × (out ++ waits' ≡ waits ++ bytes)

-- of what waits and of these bytes behind it, which aren't none, a beginning went to the sink
abbrev pub Tears : List ℕ → Option (List ℕ) → Option (List ℕ) → List ℕ → Type 0
Tears waits written written' bytes =
    (n : ℕ) × Appends written written' (take n (waits ++ bytes)) × (0 < length (waits ++ bytes))

-- bytes came behind those that wait, or a write fault ends the session
abbrev pub Says : Result (Unit {0}) SessionEnd → List ℕ → List ℕ → Option (List ℕ) → Option (List ℕ) → List ℕ → Type 0
Says (Ok done) waits waits' written written' bytes = Moves waits waits' written written' bytes
Says (Err how) waits waits' written written' bytes = (how ≡ WriteFault) × Tears waits written written' bytes

-- the session ends so, with all that waits and these bytes in the sink, or by a write fault
abbrev pub Closes : SessionEnd → SessionEnd → List ℕ → Option (List ℕ) → Option (List ℕ) → List ℕ → Type 0
Closes how result waits written written' bytes =
    ((result ≡ how) × Appends written written' (waits ++ bytes)) ⊎ ((result ≡ WriteFault) × Tears waits written written' bytes)

-- a count of faults hasn't fallen, and rose where this is claimed
pub record Blames (before now : ℕ) (claim : Type 0) : Type 0 where
  pub later : before ≤ now
  pub rose : claim → Rose before now
