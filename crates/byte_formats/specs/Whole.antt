-- A value that takes all of some bytes.
use Rattle.std.specs.Prelude.{◌≡◌, ℕ, ◌-◌, ◌<◌, ◌≤◌, true, List, ◌++◌, length, take, Result, Ok, Err, if◌then◌else◌}
use Rattle.byte_formats.specs.declared.error.FieldError.{FieldError}
use Rattle.byte_formats.specs.declared.error.FieldError.TheVariants.{Truncated, Invalid}
use Rattle.byte_formats.specs.Format.{◌>>=◌, Format, Read, is_empty, left_of}
use Rattle.byte_formats.specs.Lawful.{IsBytes}

-- the bytes are the spelling of a value that fits
pub record Spells {X : Type 0} (f : Format X) (bytes : List ℕ) (x : X) : Type 0 where
  pub fits : f.fits x ≡ true
  pub is : bytes ≡ f.spell x

-- a value with no byte behind it; else the first of them is one too many
abbrev pub ended : {X : Type 0} → X × List ℕ → Result X FieldError
ended x = if is_empty x.1 then Ok x.0 else Err (Invalid (length x.1))

abbrev pub all_of : {X : Type 0} → Read X → Result X FieldError
all_of read = read >>= ended

abbrev pub whole : {X : Type 0} → Format X → List ℕ → Result X FieldError
whole f bytes = all_of (f.read bytes)

-- the place of an error in bytes of this length: their length where they end early
abbrev pub place_of : ℕ → FieldError → ℕ
place_of len (Truncated left) = len
place_of len (Invalid left) = len - left

abbrev pub at_place : {X : Type 0} → (FieldError → ℕ) → Result X FieldError → Result X ℕ
at_place place (Ok x) = Ok x
at_place place (Err error) = Err (place error)

-- the value that bytes spell, or the place of the first invalid field; their length where they end early
unfoldable pub decoded : {X : Type 0} → Format X → List ℕ → Result X ℕ
decoded f bytes = at_place (place_of (length bytes)) (whole f bytes)

-- ---- what is so of each lawful format

-- the bytes have no error before their end
abbrev pub IsValidTo : {X : Type 0} → ℕ → Result X ℕ → Type 0
IsValidTo end (Ok x) = Unit {0}
IsValidTo end (Err place) = place ≡ end

pub record DecodesWell {X : Type 0} (f : Format X) : Type 0 where
  pub found : (bytes : List ℕ) (x : X) → IsBytes bytes → decoded f bytes ≡ Ok x → Spells f bytes x
  pub again : (bytes : List ℕ) (x : X) → Spells f bytes x → decoded f bytes ≡ Ok x
  -- bytes spell at most one value
  pub one : (bytes : List ℕ) (x y : X) → Spells f bytes x → Spells f bytes y → x ≡ y
  pub within : (bytes : List ℕ) (place : ℕ) → IsBytes bytes → decoded f bytes ≡ Err place → place ≤ length bytes
  -- the bytes of a value that end early are invalid at their length
  pub truncated : (bytes more : List ℕ) (x : X) → IsBytes bytes → Spells f (bytes ++ more) x → 0 < length more
      → decoded f bytes ≡ Err (length bytes)
  -- the bytes of a value that go on are invalid at the first byte too many
  pub too_many : (bytes more : List ℕ) (x : X) → Spells f bytes x → 0 < length more
      → decoded f (bytes ++ more) ≡ Err (length bytes)
  -- an error before the end stays where it is, whatever follows
  pub stays : (bytes more : List ℕ) (place : ℕ) → IsBytes bytes → decoded f bytes ≡ Err place → place < length bytes
      → decoded f (bytes ++ more) ≡ Err place
  -- the bytes before the place of an error have none
  pub before : (bytes : List ℕ) (place : ℕ) → IsBytes bytes → decoded f bytes ≡ Err place
      → IsValidTo place (decoded f (take place bytes))
