-- Laws of reading a line.
use Rattle.std.specs.Prelude.{◌≡◌, ◌≢◌, ℕ, List, Option, Result, Err}
use Rattle.transcript.specs.declared.command.Command.{Command}
use Rattle.client_lines.specs.Lines.{Reads}
use Rattle.client_lines.specs.declared.refusal.LineRefusal.{LineRefusal}
use Rattle.client_lines.specs.declared.refusal.LineRefusal.TheVariants as refusal

-- a line is read in one way: it is empty, asks one command, is refused as one kind with one place, or comes later
abbrev pub OneReadingIsHad : Type 0
OneReadingIsHad = (line : List ℕ) (a b : Result (Option Command) LineRefusal) → a ≢ Err refusal.Memory →
    b ≢ Err refusal.Memory → Reads line a → Reads line b → a ≡ b
