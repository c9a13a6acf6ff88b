-- What reading a text is answered.
use Rattle.std.specs.Prelude.{ℕ, ◌≡◌, ◌-◌, ◌⊎◌, List, length, Result, Ok, Err}
use Rattle.doc_model.specs.declared.node.Node.{Node}
use Rattle.json_text.specs.Reading.{text_read}
use Rattle.json_text.specs.declared.bad.JsonBad.{JsonBad}
use Rattle.json_text.specs.declared.bad.JsonBad.TheVariants as bad
use Rattle.json_text.specs.declared.fault.Fault.{Fault}
use Rattle.json_text.specs.declared.fault.Fault.TheVariants as fault

-- the fault of a text of so many bytes, by its place
abbrev pub placed : ℕ → Fault → JsonBad
placed len (fault.Syntax left) = bad.Syntax (len - left)
placed len (fault.Utf8 left) = bad.Utf8 (len - left)
placed len (fault.Depth left) = bad.Depth (len - left)
placed len (fault.Number left) = bad.Number (len - left)

-- the answer is what reading the bytes gives: the tree, or the first fault and its place; want of memory is free
abbrev pub ReadAnswers : List ℕ → Result Node JsonBad → Type 0
ReadAnswers bytes (Ok v) = text_read bytes ≡ Ok v
ReadAnswers bytes (Err e) = (e ≡ bad.Memory) ⊎ ((f : Fault) × (text_read bytes ≡ Err f) × (e ≡ placed (length bytes) f))

-- the answer is this tree; want of memory is free
abbrev pub Takes : Node → Result Node JsonBad → Type 0
Takes v (Ok w) = w ≡ v
Takes v (Err e) = e ≡ bad.Memory
