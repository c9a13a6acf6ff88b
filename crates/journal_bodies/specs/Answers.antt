-- What the code returns, and what reading gives.
use Rattle.std.specs.Prelude.{◌≡◌, ◌+◌, ◌-◌, ◌^◌, ◌≤◌, ◌==◌, ℕ, List, length, map, sum_by, Option, Result, Ok, Err, if◌then◌else◌}
use Rattle.std.specs.Borrow.{Bor}
use Rattle.std.specs.BTreeMap.{BTreeMap, get_by}
use Rattle.std.specs.Option.{is_some}
use Rattle.std.specs.Ordering.{nat_cmp}
use Rattle.doc_model.specs.Operations.{op_size, uri_of}
use Rattle.doc_model.specs.declared.entry.Entry.{Entry}
use Rattle.doc_model.specs.declared.op.Op.{Op}
use Rattle.docs_format.specs.Answers.{HasNames}
use Rattle.byte_formats.specs.Format.{◌>>=◌, Read, left_of}
use Rattle.docs_format.specs.declared.fault.DocBytesBad.{DocBytesBad}
use Rattle.docs_format.specs.declared.fault.DocBytesBad.TheVariants as bad
use Rattle.byte_formats.specs.declared.error.FieldError.{FieldError}
use Rattle.byte_formats.specs.declared.error.DecodeError.{DecodeError}
use Rattle.byte_formats.specs.declared.error.DecodeError.TheVariants as stop
use Rattle.byte_formats.specs.declared.error.FieldError.TheVariants.{Invalid}
use Rattle.journal_bodies.specs.EntryReading.{entry_at}
use Rattle.journal_bodies.specs.RootReading.{root_at}
use Rattle.journal_bodies.specs.Roots.{PlainRoot, has}

-- a value with no byte after it
abbrev pub alone : {X : Type 0} → Read X → Result X FieldError
alone read = do
  x ← read
  if length x.1 == 0 then Ok x.0 else Err (Invalid (length x.1))

-- the value, or the place of its error in bytes of this length
abbrev pub placed : {X : Type 0} → ℕ → Result X FieldError → Result X ℕ
placed len (Ok x) = Ok x
placed len (Err fault) = Err (len - left_of fault)

-- the root that bytes spell, or the place of the first truncated or invalid field
abbrev pub root_of : List ℕ → Result PlainRoot ℕ
root_of bytes = placed (length bytes) (alone (root_at bytes))

-- the number and the entry that bytes spell, or the place of the first truncated or invalid field; where a number is
-- expected, another one is invalid
abbrev pub entry_of : Option ℕ → List ℕ → Result (ℕ × Entry) ℕ
entry_of expected bytes = placed (length bytes) (alone (entry_at expected bytes))

-- no more bytes are left from the field of the error on than there are
abbrev pub IsWithin : ℕ → DecodeError → Type 0
IsWithin len stop.Memory = Unit {0}
IsWithin len (stop.Bad fault) = left_of fault ≤ len

-- what an error of reading says of bytes of this length: want of memory, or its place
abbrev pub TellsStop : ℕ → DecodeError → DocBytesBad → Type 0
TellsStop len stop.Memory why = why ≡ bad.Memory
TellsStop len (stop.Bad fault) why = why ≡ bad.Bad (len - left_of fault)

-- the keys of the map are these numbers
abbrev pub HasFiles : BTreeMap ℕ Unit → List ℕ → Type 0
HasFiles seen files = (n : ℕ) → is_some (get_by (nat_cmp n) seen) ≡ has files n

-- the keys of the map are the URIs of these operations, and `room` is the size that they leave for documents
abbrev pub HasOps : BTreeMap (Bor (List ℕ)) Unit → ℕ → List Op → Type 0
HasOps met room ops = HasNames met (map uri_of ops) × (room + sum_by op_size ops ≡ 2 ^ 24)
