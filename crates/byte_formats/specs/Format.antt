-- Formats: how a value is spelled, which values have a spelling, and how bytes are read from their front.
use Rattle.std.specs.Prelude.{ℕ, zero, suc, ◌+◌, Bool, true, false, ◌&&◌, nat_lt, ◌==◌, List, [], ◌∷◌, ◌++◌, length}
use Rattle.std.specs.Prelude.{take, drop, Option, Some, None, Result, Ok, Err, if◌then◌else◌}
use Rattle.byte_formats.specs.declared.error.FieldError.{FieldError}
use Rattle.byte_formats.specs.declared.error.FieldError.TheVariants.{Truncated, Invalid}

-- how many bytes are left from the first byte of the truncated or invalid field on
abbrev pub left_of : FieldError → ℕ
left_of (Truncated left) = left
left_of (Invalid left) = left

-- the value at the front of some bytes and the bytes behind it, or the error
abbrev pub Read : Type 0 → Type 0
Read X = Result (X × List ℕ) FieldError

infixl 10 ◌>>=◌
abbrev pub ◌>>=◌ : {X Y : Type 0} → Result X FieldError → (X → Result Y FieldError) → Result Y FieldError
(Ok x) >>= f = f x
(Err error) >>= f = Err error

pub record Format (X : Type 0) : Type 0 where
  pub spell : X → List ℕ
  pub fits : X → Bool
  pub read : List ℕ → Read X

-- ---- formats of no field

abbrev pub is_empty : {X : Type 0} → List X → Bool
is_empty [] = true
is_empty (x ∷ xs) = false

-- a value that takes no byte, known by a test
abbrev pub constant : {X : Type 0} → X → (X → Bool) → Format X
constant x is = record { spell = λ _. []; fits = is; read = λ bytes. Ok (x, bytes) }

-- ---- one format made of another

-- a value that keeps a rule; one that breaks it is invalid at its first byte
abbrev pub kept : {X : Type 0} → (X → Bool) → ℕ → X × List ℕ → Read X
kept rule len x = if rule x.0 then Ok x else Err (Invalid len)

abbrev pub keeping : {X : Type 0} → (X → Bool) → Format X → Format X
keeping rule f = record {
  spell = f.spell;
  fits = λ x. f.fits x && rule x;
  read = λ bytes. f.read bytes >>= kept rule (length bytes);
}

-- the error of a single field is at its first byte
abbrev pub at_front : {X : Type 0} → ℕ → Read X → Read X
at_front len (Ok x) = Ok x
at_front len (Err (Truncated left)) = Err (Truncated len)
at_front len (Err (Invalid left)) = Err (Invalid len)

-- a format that counts as a single field
abbrev pub field : {X : Type 0} → Format X → Format X
field f = record { spell = f.spell; fits = f.fits; read = λ bytes. at_front (length bytes) (f.read bytes) }

-- what a value is made of, spelled or tested
abbrev pub spelled : {Y : Type 0} → (Y → List ℕ) → Option Y → List ℕ
spelled spell None = []
spelled spell (Some y) = spell y

abbrev pub holds : {Y : Type 0} → (Y → Bool) → Option Y → Bool
holds test None = false
holds test (Some y) = test y

-- the format of what is made of another value; some values aren't made so
abbrev pub made : {Y X : Type 0} → (Y → X) → (X → Option Y) → Format Y → Format X
made make parts f = record {
  spell = λ x. spelled f.spell (parts x);
  fits = λ x. holds f.fits (parts x);
  read = λ bytes. f.read bytes >>= λ y. Ok (make y.0, y.1);
}

-- one value and then another, whose format may depend on the first
abbrev pub both : {X Y : Type 0} → Format X → (X → Format Y) → Format (X × Y)
both f g = record {
  spell = λ p. f.spell p.0 ++ (g p.0).spell p.1;
  fits = λ p. f.fits p.0 && (g p.0).fits p.1;
  read = λ bytes. f.read bytes >>= λ x. (g x.0).read x.1 >>= λ y. Ok ((x.0, y.0), y.1);
}

-- what is read of so many bytes at the front. A field that they cut is invalid where more bytes follow, and so is a
-- byte that is left of them
abbrev pub fence : {X : Type 0} → Bool → List ℕ → Read X → Read X
fence short behind (Ok x) =
    if is_empty x.1 then (if short then Err (Truncated 0) else Ok (x.0, behind)) else Err
    (Invalid (length x.1 + length behind))
fence short behind (Err (Invalid left)) = Err (Invalid (left + length behind))
fence short behind (Err (Truncated left)) = if short then Err (Truncated left) else Err (Invalid (left + length behind))

-- a value whose spelling has exactly so many bytes
abbrev pub fenced : {X : Type 0} → ℕ → Format X → Format X
fenced len f = record {
  spell = f.spell;
  fits = λ x. f.fits x && (length (f.spell x) == len);
  read = λ bytes. fence (nat_lt (length bytes) len) (drop len bytes) (f.read (take len bytes));
}

-- ---- lists

abbrev pub cons : {X : Type 0} → X × List X → List X
cons p = p.0 ∷ p.1

abbrev pub uncons : {X : Type 0} → List X → Option (X × List X)
uncons [] = None
uncons (x ∷ xs) = Some (x, xs)

-- so many values, each read in view of a state that goes on with it
unfoldable pub many : {S X : Type 0} → (S → Format X) → (S → X → S) → S → ℕ → Format (List X)
many item next state zero = constant [] is_empty
many item next state (suc n) = made cons uncons (both (item state) (λ x. many item next (next state x) n))
