-- How many bytes are left from an error on.
use Rattle.std.proofs.Common.{◌≡◌, ℕ, ◌≤◌, List, length, Result, Ok, Err, ap, arith}
use Rattle.std.proofs.lemmas.List.{length-append}
use Rattle.byte_formats.specs.declared.error.FieldError.{FieldError}
use Rattle.byte_formats.specs.declared.error.DecodeError.{DecodeError}
use Rattle.byte_formats.specs.declared.error.DecodeError.TheVariants as decode
use Rattle.byte_formats.specs.Answers.{Gives, IsAmong}
use Rattle.byte_formats.specs.Format.{Format, left_of}
use Rattle.byte_formats.specs.Lawful.{IsBytes, Lawful}

module _ {X : Type 0} (f : Format X) (F : Lawful f) (bytes : List ℕ) (fits : IsBytes bytes) where
  pub left_within : (error : FieldError) → f.read bytes ≡ Err error → left_of error ≤ length bytes
  left_within error e =
      let p = F.placed bytes error fits e in
      omega (arith, ap length p.parts, length-append p.front p.back, p.place)

  -- so it is of what the code read
  pub read_among : {T : Type 0} (view : T → X) (rest : List ℕ) (read : Result T DecodeError)
      → Gives (λ x. (view x, rest)) read (f.read bytes) → IsAmong (length bytes) (length rest) read
  read_among view rest (Ok x) g =
      let e = F.found bytes (view x) rest fits g in
      omega (arith, ap length e.0, length-append (f.spell (view x)) rest)
  read_among view rest (Err decode.Memory) g = tt
  read_among view rest (Err (decode.Bad error)) g = left_within error g
