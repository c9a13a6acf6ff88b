-- Bodies of a log's frames: an error is at the first byte of its field, also where the body ends in that field.
use Rattle.std.specs.Prelude.{◌≡◌, ℕ, ◌-◌, ◌<◌, ◌≤◌, List, ◌++◌, length, take, Result, Ok, Err}
use Rattle.byte_formats.specs.Format.{Format, left_of}
use Rattle.byte_formats.specs.Lawful.{IsBytes}
use Rattle.byte_formats.specs.Whole.{IsValidTo, Spells, at_place, whole}
use Rattle.byte_formats.specs.declared.error.FieldError.{FieldError}
use Rattle.byte_formats.specs.declared.error.FieldError.TheVariants.{Invalid, Truncated}

-- the place of an error in a body of this length
abbrev pub field_of : ℕ → FieldError → ℕ
field_of len error = len - left_of error

-- the value that a body spells, or the place of the first truncated or invalid field, or of the first byte too many
unfoldable pub body_of : {X : Type 0} → Format X → List ℕ → Result X ℕ
body_of f bytes = at_place (field_of (length bytes)) (whole f bytes)

-- the field at this place isn't valid: the bytes end in it, or it is invalid whatever follows them
abbrev pub IsNotValid : {X : Type 0} → Format X → List ℕ → ℕ → FieldError → Type 0
IsNotValid f bytes place (Truncated left) = whole f bytes ≡ Err (Truncated left)
IsNotValid f bytes place (Invalid left) = (more : List ℕ) → body_of f (bytes ++ more) ≡ Err place

-- the place is that of the first truncated or invalid field, or of the first byte too many
pub record IsFirst {X : Type 0} (f : Format X) (bytes : List ℕ) (place : ℕ) : Type 0 where
  pub error : FieldError
  pub is : whole f bytes ≡ Err error
  pub at : place ≡ field_of (length bytes) error
  pub within : place ≤ length bytes
  -- all fields before it are valid
  pub before : IsValidTo place (body_of f (take place bytes))
  -- the field at it isn't
  pub invalid : IsNotValid f bytes place error

-- the bytes end in a field, and the error is at its first byte
pub record EndsInField {X : Type 0} (f : Format X) (bytes : List ℕ) : Type 0 where
  pub left : ℕ
  pub is : whole f bytes ≡ Err (Truncated left)
  pub at : body_of f bytes ≡ Err (length bytes - left)

-- ---- what is so of each lawful format

pub record BodiesDecodeWell {X : Type 0} (f : Format X) : Type 0 where
  pub found : (bytes : List ℕ) (x : X) → IsBytes bytes → body_of f bytes ≡ Ok x → Spells f bytes x
  pub again : (bytes : List ℕ) (x : X) → Spells f bytes x → body_of f bytes ≡ Ok x
  -- an error is at the first field that isn't valid
  pub first : (bytes : List ℕ) (place : ℕ) → IsBytes bytes → body_of f bytes ≡ Err place → IsFirst f bytes place
  -- a body that ends early is damaged at the field that it ends in
  pub truncated : (bytes more : List ℕ) (x : X) → IsBytes bytes → Spells f (bytes ++ more) x → 0 < length more
      → EndsInField f bytes
  -- a body that goes on is damaged at the first byte too many
  pub too_many : (bytes more : List ℕ) (x : X) → Spells f bytes x → 0 < length more
      → body_of f (bytes ++ more) ≡ Err (length bytes)
