-- What the code returns, and what reading gives.
use Rattle.std.specs.Prelude.{◌≡◌, ℕ, List, ◌≤◌, length, Result, Ok, Err, IfErr, IfOk}
use Rattle.byte_formats.specs.Format.{Format, left_of}
use Rattle.byte_formats.specs.Bodies.{body_of}
use Rattle.byte_formats.specs.Whole.{Spells, decoded}
use Rattle.byte_formats.specs.declared.error.FieldError.{FieldError}
use Rattle.byte_formats.specs.declared.error.DecodeError.{DecodeError}
use Rattle.byte_formats.specs.declared.error.DecodeError.TheVariants as decode
use Rattle.byte_formats.specs.declared.error.BytesBad.{BytesBad}
use Rattle.byte_formats.specs.declared.error.BytesBad.TheVariants as bad

-- the error of reading, or want of memory
abbrev pub Fails : {Y : Type 0} → DecodeError → Result Y FieldError → Type 0
Fails decode.Memory read = Unit {0}
Fails (decode.Bad error) read = read ≡ Err error

-- the result is what reading gives, seen through `view`, unless memory ran out
abbrev pub Gives : {X Y : Type 0} → (X → Y) → Result X DecodeError → Result Y FieldError → Type 0
Gives view (Ok x) read = read ≡ Ok (view x)
Gives view (Err why) read = Fails why read

-- the value, seen through `view`, or the place of the error, unless memory ran out
abbrev pub Returns : {X Y : Type 0} → (X → Y) → Result X BytesBad → Result Y ℕ → Type 0
Returns view (Ok x) read = read ≡ Ok (view x)
Returns view (Err bad.Memory) read = Unit {0}
Returns view (Err (bad.Bad place)) read = read ≡ Err place

-- an error is at one of so many bytes or at their end
abbrev pub IsWithin : ℕ → BytesBad → Type 0
IsWithin len bad.Memory = Unit {0}
IsWithin len (bad.Bad place) = place ≤ len

-- what was read leaves `left` bytes; these, or those from an error on, are at most `most`
abbrev pub IsAmong : {X : Type 0} → ℕ → ℕ → Result X DecodeError → Type 0
IsAmong most left (Ok x) = left ≤ most
IsAmong most left (Err decode.Memory) = Unit {0}
IsAmong most left (Err (decode.Bad error)) = left_of error ≤ most

-- what a decoder returns of bytes of which this is the value, or the place of the error
pub record DecodesTo {X : Type 0} (value : Result X ℕ) (f : Format X) (bytes : List ℕ) (result : Result X BytesBad)
    : Type 0 where
  -- what is decoded is spelled by the bytes
  pub found : IfOk result (λ x. Spells f bytes x)
  -- what they spell is decoded, unless memory runs out
  pub only : (x : X) → Spells f bytes x → Returns (λ y. y) result (Ok x)
  -- else the place is that of the error
  pub exact : Returns (λ x. x) result value
  pub within : IfErr result (IsWithin (length bytes))

-- an error is at the first invalid field, or at the length of the bytes where they end early
abbrev pub Decodes : {X : Type 0} → Format X → List ℕ → Result X BytesBad → Type 0
Decodes f bytes result = DecodesTo (decoded f bytes) f bytes result

-- an error is at the first truncated or invalid field
abbrev pub DecodesBody : {X : Type 0} → Format X → List ℕ → Result X BytesBad → Type 0
DecodesBody f bytes result = DecodesTo (body_of f bytes) f bytes result
