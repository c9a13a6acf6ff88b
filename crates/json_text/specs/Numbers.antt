-- Numbers (RFC 8259, section 6): how they are spelled, and what they are worth.
use Rattle.std.specs.Prelude.{ℕ, ℤ, pos, neg_ℤ, ◌≡◌, ◌+◌, ◌-◌, ◌*◌, ◌/◌, ◌%◌, ◌^◌, ◌==◌, Bool, true, false, ◌&&◌, ◌||◌, not, nat_le, nat_lt, List, [], ◌∷◌, ◌++◌, length, fold, Option, Some, None, IsTrue, if◌then◌else◌}
use Rattle.std.specs.List.{list_all}

abbrev pub is_digit : ℕ → Bool
is_digit b = nat_le 0x30 b && nat_le b 0x39

-- digits as a number, the highest first
abbrev pub digits_from : ℕ → List ℕ → ℕ
digits_from n digits = fold (λ k b. k * 10 + (b - 0x30)) n digits

abbrev pub digits_value : List ℕ → ℕ
digits_value digits = digits_from 0 digits

-- int: digits, of which the first is 0 only where it stands alone
abbrev pub is_int : List ℕ → Bool
is_int [] = false
is_int (b ∷ []) = is_digit b
is_int (b ∷ c ∷ bs) = not (b == 0x30) && list_all is_digit (b ∷ c ∷ bs)

-- e / E
abbrev pub is_exponent_letter : ℕ → Bool
is_exponent_letter b = (b == 0x65) || (b == 0x45)

-- plus or minus, or neither
abbrev pub is_sign : List ℕ → Bool
is_sign [] = true
is_sign (b ∷ []) = (b == 0x2B) || (b == 0x2D)
is_sign _ = false

-- a number's parts as they are written; without digits there is no fraction, and no exponent
pub record Literal : Type 0 where
  pub minus : Bool
  pub whole : List ℕ
  pub fraction : List ℕ
  pub letter : ℕ
  pub sign : List ℕ
  pub exponent : List ℕ

-- frac: a point and digits
abbrev pub fraction_text : List ℕ → List ℕ
fraction_text [] = []
fraction_text (b ∷ bs) = 0x2E ∷ b ∷ bs

-- exp: a letter, a sign and digits
abbrev pub exponent_text : ℕ → List ℕ → List ℕ → List ℕ
exponent_text letter sign [] = []
exponent_text letter sign (b ∷ bs) = letter ∷ sign ++ b ∷ bs

-- number: [ minus ] int [ frac ] [ exp ]
abbrev pub literal_text : Literal → List ℕ
literal_text l =
    (if l.minus then 0x2D ∷ [] else []) ++ l.whole ++ fraction_text l.fraction
    ++ exponent_text l.letter l.sign l.exponent

pub record IsLiteral (l : Literal) : Type 0 where
  pub whole : IsTrue (is_int l.whole)
  pub fraction : IsTrue (list_all is_digit l.fraction)
  pub letter : IsTrue (is_exponent_letter l.letter)
  pub sign : IsTrue (is_sign l.sign)
  pub exponent : IsTrue (list_all is_digit l.exponent)

abbrev pub signed : Bool → ℕ → ℤ
signed minus n = if minus then neg_ℤ (pos n) else pos n

-- the part of a power of ten that is above 1, and below 1
abbrev pub raised : Bool → List ℕ → ℕ
raised down exponent = if down then 0 else digits_value exponent

abbrev pub lowered : Bool → List ℕ → ℕ
lowered down exponent = if down then digits_value exponent else 0

-- top / bottom units, where that is a whole number below 10^38
abbrev pub whole_units : ℕ → ℕ → Option ℕ
whole_units top bottom = if (top % bottom == 0) && nat_lt (top / bottom) (10 ^ 38) then Some (top / bottom) else None

-- how many units of 10^-18 these digits, this fraction and this exponent make
abbrev pub magnitude : List ℕ → List ℕ → Bool → List ℕ → Option ℕ
magnitude whole fraction down exponent =
    whole_units (digits_value (whole ++ fraction) * 10 ^ (18 + raised down exponent))
    (10 ^ (length fraction + lowered down exponent))

abbrev pub with_sign : Bool → Option ℕ → Option ℤ
with_sign minus None = None
with_sign minus (Some n) = Some (signed minus n)

-- what a number is worth in units of 10^-18, where it is such a count below 10^38
abbrev pub worth : Bool → List ℕ → List ℕ → Bool → List ℕ → Option ℤ
worth minus whole fraction down exponent = with_sign minus (magnitude whole fraction down exponent)

abbrev pub is_minus : List ℕ → Bool
is_minus [] = false
is_minus (b ∷ bs) = b == 0x2D

-- the bytes are a number, which is worth so much: nothing where it is out of range
abbrev pub IsNumber : List ℕ → Option ℤ → Type 0
IsNumber bytes n = (l : Literal) × IsLiteral l × (bytes ≡ literal_text l) ×
    (n ≡ worth l.minus l.whole l.fraction (is_minus l.sign) l.exponent)
