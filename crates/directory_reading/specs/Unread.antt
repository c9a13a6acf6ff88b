-- Why bodies weren't read.
use Rattle.std.specs.Prelude.{ℕ, ◌≡◌, ◌≤◌, ◌+◌, ◌^◌, min, List, length, ⊤}
use Rattle.disk_model.specs.declared.file_name.FileName.TheVariants.{Log, Sealed}
use Rattle.docs_format.specs.declared.fault.DocBytesBad.{DocBytesBad}
use Rattle.docs_format.specs.declared.fault.DocBytesBad.TheVariants as bad
use Rattle.directory_reading.specs.declared.unread.LogBad.{LogBad}
use Rattle.directory_reading.specs.declared.unread.LogBad.TheVariants.{Damaged, Fault, Memory}

-- this log breaks a rule at this place, or memory ran out
abbrev pub IsUnread : (ℕ → ℕ → Type 0) → LogBad → Type 0
IsUnread Breaks (Damaged (Log file) place) = Breaks file place
IsUnread Breaks (Damaged (Sealed number) place) = ⊥
IsUnread Breaks Fault = ⊥
IsUnread Breaks Memory = ⊤

-- the error of a body as one of its log, whose place counts from the gate of the frame
abbrev pub TellsBad : ℕ → ℕ → DocBytesBad → LogBad → Type 0
TellsBad file gate bad.Memory why = why ≡ Memory
TellsBad file gate (bad.Bad at) why = why ≡ Damaged (Log file) (min (gate + 9 + at) (2 ^ 62))

-- a body of so many bytes, whose frame has its gate at this place of a log, breaks a rule; of its place and 2^62, where
-- a log is too long, the earlier one counts
pub record BreaksAt (Breaks : ℕ → Type 0) (file gate len : ℕ) (other place : ℕ) : Type 0 where
  pub at : ℕ
  pub log : other ≡ file
  pub broken : Breaks at
  pub within : at ≤ len
  pub placed : place ≡ min (gate + 9 + at) (2 ^ 62)

-- behind these bodies the next one is invalid
abbrev pub IsBadBody : (List (List ℕ) → List ℕ → ℕ → Type 0) → ℕ → List (List ℕ) → ℕ → List ℕ → ℕ → ℕ → Type 0
IsBadBody Breaks file bodies gate body = BreaksAt (Breaks bodies body) file gate (length body)
