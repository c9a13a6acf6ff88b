-- Bytes on their way to a sink.
use Rattle.std.specs.Prelude.{◌≡◌, ◌<◌, ℕ, List, ◌++◌, length, take, Option, Result, Ok, Err, OnOk}
use Rattle.std.specs.Io.KnownBytes.{Appends}
use Rattle.disk_model.specs.Causes.{HasCause}
use Rattle.disk_model.specs.declared.failed.Failed.{Failed}

-- bytes came behind those that wait, and the first of all went to the sink: all that aren't there wait still. A write
-- of some that failed leaves a beginning of them in the sink
abbrev pub Passes : Result (Unit {0}) Failed → List ℕ → List ℕ → Option (List ℕ) → Option (List ℕ) → List ℕ → Type 0
Passes (Ok done) waits waits' written written' bytes =
    (out : List ℕ) × Appends written written' out × (out ++ waits' ≡ waits ++ bytes)
Passes (Err failed) waits waits' written written' bytes =
    (n : ℕ) × Appends written written' (take n (waits ++ bytes)) × (0 < length (waits ++ bytes))

-- a put of a text into an outbox: the text came behind the bytes that wait, of which the first may have gone to the sink.
-- After `Ok` one more byte has room, and a failure has its cause in the sink
pub record Puts {W : Type 0} (written : W → Option (List ℕ)) (faults : W → ℕ) (result : Result (Unit {0}) Failed)
    (waits waits' : List ℕ) (sink sink' : W) (text : List ℕ) : Type 0 where
  pub bytes : Passes result waits waits' (written sink) (written sink') text
  pub room : OnOk result (length waits' < 65536)
  pub cause : HasCause (faults sink) (faults sink') result
