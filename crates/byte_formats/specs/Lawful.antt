-- What makes a format lawful.
use Rattle.std.specs.Prelude.{◌≡◌, ℕ, ◌+◌, ◌<◌, true, List, ◌++◌, length, get_or, Ok, Err}
use Rattle.byte_formats.specs.declared.error.FieldError.{FieldError}
use Rattle.byte_formats.specs.declared.error.FieldError.TheVariants.{Invalid}
use Rattle.byte_formats.specs.Format.{Format, Read, left_of}

-- each number is that of a byte
abbrev pub IsBytes : List ℕ → Type 0
IsBytes bytes = (i : ℕ) → get_or bytes i 0 < 256

-- the bytes have no error but at their end
pub record IsEdge {X : Type 0} (read : Read X) : Type 0 where
  pub error : FieldError
  pub is : read ≡ Err error
  pub last : left_of error ≡ 0

-- the bytes before the place of an error are complete and valid fields
pub record IsPlaced {X : Type 0} (f : Format X) (bytes : List ℕ) (error : FieldError) : Type 0 where
  pub front : List ℕ
  pub back : List ℕ
  pub parts : bytes ≡ front ++ back
  pub place : length back ≡ left_of error
  pub edge : IsEdge (f.read front)

pub record Lawful {X : Type 0} (f : Format X) : Type 0 where
  -- what is spelled is read again, and what is behind it is left
  pub again : (x : X) (rest : List ℕ) → f.fits x ≡ true → f.read (f.spell x ++ rest) ≡ Ok (x, rest)
  -- what is read was spelled by the bytes that are gone
  pub found : (bytes : List ℕ) (x : X) (rest : List ℕ) → IsBytes bytes → f.read bytes ≡ Ok (x, rest)
      → (bytes ≡ f.spell x ++ rest) × (f.fits x ≡ true)
  -- what is invalid stays so, whatever follows
  pub stays : (bytes more : List ℕ) (left : ℕ) → IsBytes bytes → f.read bytes ≡ Err (Invalid left)
      → f.read (bytes ++ more) ≡ Err (Invalid (left + length more))
  -- the fields before an error are valid
  pub placed : (bytes : List ℕ) (error : FieldError) → IsBytes bytes → f.read bytes ≡ Err error → IsPlaced f bytes error
