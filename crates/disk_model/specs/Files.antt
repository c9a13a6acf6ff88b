-- What the numbers of a yard hold.
use Rattle.std.specs.Prelude.{◌≡◌, ◌⊎◌, ℕ, List, Option, Some, None, IfSome}

-- what a number of a yard has: the bytes of its sealed file, and the mark of the build that was begun there
pub record Slot : Type 0 where
  pub sealed : Option (List ℕ)
  pub mark : Option ℕ

-- the bytes of each number that has a sealed file
abbrev pub Files : Type 0
Files = ℕ → Option (List ℕ)

-- the sealed files among these slots
abbrev pub files_in : (ℕ → Slot) → Files
files_in slots number = (slots number).sealed

-- neither a sealed file nor a mark
abbrev pub nothing : Slot
nothing = record { sealed = None; mark = None }

-- a build was begun under this mark, and nothing is sealed
abbrev pub BeginsBuild : ℕ → Slot → Slot → Type 0
BeginsBuild mark old new = new ≡ record { sealed = None; mark = Some mark }

-- the number is emptied
abbrev pub Empties : Slot → Slot → Type 0
Empties old new = new ≡ nothing

-- what the number had, or nothing
abbrev pub MayLose : Slot → Slot → Type 0
MayLose old new = (new ≡ old) ⊎ (new ≡ nothing)

-- the number holds these bytes, where they are told, under its old mark
abbrev pub Admits : Option (List ℕ) → Slot → Slot → Type 0
Admits bytes old new = (new.mark ≡ old.mark) × IfSome bytes (λ content. new.sealed ≡ Some content)
