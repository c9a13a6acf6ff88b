-- What is read from a line.
use Rattle.std.specs.Prelude.{◌≡◌, ◌≢◌, ◌⊎◌, ℕ, List, [], Option, Some, None, Result, Ok, Err}
use Rattle.transcript.specs.Commands.{Asks}
use Rattle.transcript.specs.Refusals.{IsRefused, ComesLater}
use Rattle.transcript.specs.declared.command.Command.{Command}
use Rattle.transcript.specs.declared.command.Command.TheVariants.{Quit}
use Rattle.client_lines.specs.declared.refusal.LineRefusal.{LineRefusal}
use Rattle.client_lines.specs.declared.refusal.LineRefusal.TheVariants as refusal

-- none of an empty line, else what it asks, how it is refused, or `later` for a form that isn't answered yet; want of
-- memory is free but for an empty line and one that asks to quit
abbrev pub Reads : List ℕ → Result (Option Command) LineRefusal → Type 0
Reads line (Ok None) = line ≡ []
Reads line (Ok (Some asked)) = Asks line asked
Reads line (Err (refusal.Bad kind place)) = (line ≢ []) × IsRefused line kind place
Reads line (Err refusal.Later) = ComesLater line
Reads line (Err refusal.Memory) = (line ≢ []) × (Asks line Quit → ⊥)

-- a line is read in no other way: each way but want of memory is this one, or memory was wanting
abbrev pub OnlyReads : List ℕ → Result (Option Command) LineRefusal → Type 0
OnlyReads line result = (other : Result (Option Command) LineRefusal) → other ≢ Err refusal.Memory → Reads line other →
    (result ≡ other) ⊎ (result ≡ Err refusal.Memory)
