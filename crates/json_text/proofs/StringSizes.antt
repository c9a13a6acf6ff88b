-- A text is no longer than the string that spells it.
use Rattle.std.proofs.Common.{◌≡◌, ℕ, ◌+◌, ◌≤◌, Bool, true, false, List, [], ◌∷◌, ◌++◌, length, Option, Some, None, refl, sym, ap, subst, ◌∙◌, arith}
use Rattle.std.proofs.lemmas.List.{length-append}
use Rattle.std.proofs.lemmas.Str.{length-encode, len_utf8_bounds}
use Rattle.std.specs.Char.{encode_utf8}
use Rattle.std.specs.List.{flat_map}
use Rattle.json_text.specs.Strings.{or_else, short_escape, Char, plain, short, unit, char_text, unit_value, is_high, is_low, pair_value, after, text_of, IsString}
use Rattle.json_text.proofs.FoundStrings.{unit_means, pair_means}
use Rattle.json_text.proofs.OnlyStrings.{low_alone}

abbrev IsShort : List Char → Type 0
IsShort chars = (text : List ℕ) → text_of chars ≡ Some text → length text ≤ length (flat_map char_text chars)

after_short : (front text : List ℕ) (o : Option (List ℕ)) (n : ℕ) → after front o ≡ Some text →
    ((behind : List ℕ) → o ≡ Some behind → length behind ≤ n) → length text ≤ length front + n
after_short front text None n e others = absurd cc
after_short front text (Some behind) n e others =
    let whole : front ++ behind ≡ text = cc in
    let len : length (front ++ behind) ≡ length text = ap (λ (x : List ℕ). length x) whole in
    let rest : length behind ≤ n = others behind refl in
    omega (arith, length-append front behind)

encode_short : (c : ℕ) → length (encode_utf8 c) ≤ 4
encode_short c = subst (λ (n : ℕ). n ≤ 4) (sym (length-encode c)) (len_utf8_bounds c).1

none_short : IsShort []
none_short text e =
    let same : [] ≡ text = cc in
    let len : 0 ≡ length text = ap (λ (x : List ℕ). length x) same in
    omega arith

plain_short : (b : ℕ) (chars : List Char) → IsShort chars → IsShort (plain b ∷ chars)
plain_short b chars others text e =
    omega (arith, after_short (b ∷ []) text (text_of chars) (length (flat_map char_text chars)) e others)

letter_short : (b : ℕ) (chars : List Char) → IsShort chars → IsShort (short b ∷ chars)
letter_short b chars others text e =
    let c = or_else (short_escape b) in
    omega (arith, after_short (c ∷ []) text (text_of chars) (length (flat_map char_text chars)) e others)

-- an escaped code unit that is a character
one_short : (a b c d : ℕ) (chars : List Char) → is_high (unit_value a b c d) ≡ false →
    is_low (unit_value a b c d) ≡ false → IsShort chars → IsShort (unit a b c d ∷ chars)
one_short a b c d chars h l others text e =
    let v = unit_value a b c d in
    let made = sym (unit_means a b c d chars h l) ∙ e in
    omega (
      arith,
      encode_short v,
      after_short (encode_utf8 v) text (text_of chars) (length (flat_map char_text chars)) made others,
    )

pair_short : (a b c d e f g i : ℕ) (chars : List Char) → is_high (unit_value a b c d) ≡ true →
    is_low (unit_value e f g i) ≡ true → IsShort chars → IsShort (unit a b c d ∷ unit e f g i ∷ chars)
pair_short a b c d e f g i chars h l others text is =
    let v = pair_value (unit_value a b c d) (unit_value e f g i) in
    let made = sym (pair_means a b c d e f g i chars h l) ∙ is in
    omega (
      arith,
      encode_short v,
      after_short (encode_utf8 v) text (text_of chars) (length (flat_map char_text chars)) made others,
    )

no_text : (chars : List Char) → text_of chars ≡ None → IsShort chars
no_text chars n text e = let z : None ≡ Some text = sym n ∙ e in absurd cc

unit_short : (a b c d : ℕ) (chars : List Char) (h l : Bool) → is_high (unit_value a b c d) ≡ h →
    is_low (unit_value a b c d) ≡ l →
    (is_high (unit_value a b c d) ≡ true → IsShort (unit a b c d ∷ chars)) → IsShort chars →
    IsShort (unit a b c d ∷ chars)
unit_short a b c d chars true l e f high others = high e
unit_short a b c d chars false true e f high others = no_text (unit a b c d ∷ chars) (low_alone a b c d chars e f)
unit_short a b c d chars false false e f high others = one_short a b c d chars e f others

high_short : (a b c d e f g i : ℕ) (chars : List Char) (l : Bool) → is_low (unit_value e f g i) ≡ l →
    is_high (unit_value a b c d) ≡ true → IsShort chars → IsShort (unit a b c d ∷ unit e f g i ∷ chars)
high_short a b c d e f g i chars true l h others = pair_short a b c d e f g i chars h l others
high_short a b c d e f g i chars false l h others =
    no_text (unit a b c d ∷ unit e f g i ∷ chars) (rw (h, l) refl)

chars_short : (chars : List Char) → IsShort chars
chars_short [] = none_short
chars_short (plain b ∷ chars) = plain_short b chars (chars_short chars)
chars_short (short b ∷ chars) = letter_short b chars (chars_short chars)
chars_short (unit a b c d ∷ []) =
    unit_short a b c d [] (is_high (unit_value a b c d)) (is_low (unit_value a b c d)) refl refl
    (λ h. no_text (unit a b c d ∷ []) (rw h refl)) none_short
chars_short (unit a b c d ∷ plain x ∷ chars) =
    unit_short a b c d (plain x ∷ chars) (is_high (unit_value a b c d)) (is_low (unit_value a b c d)) refl refl
    (λ h. no_text (unit a b c d ∷ plain x ∷ chars) (rw h refl)) (chars_short (plain x ∷ chars))
chars_short (unit a b c d ∷ short x ∷ chars) =
    unit_short a b c d (short x ∷ chars) (is_high (unit_value a b c d)) (is_low (unit_value a b c d)) refl refl
    (λ h. no_text (unit a b c d ∷ short x ∷ chars) (rw h refl)) (chars_short (short x ∷ chars))
chars_short (unit a b c d ∷ unit e f g i ∷ chars) =
    unit_short a b c d (unit e f g i ∷ chars) (is_high (unit_value a b c d)) (is_low (unit_value a b c d)) refl refl
    (λ h. high_short a b c d e f g i chars (is_low (unit_value e f g i)) refl h (chars_short chars))
    (chars_short (unit e f g i ∷ chars))

-- with its two quotation marks a string is longer than its text
pub string_short : (bytes text : List ℕ) → IsString bytes (Some text) → length text + 2 ≤ length bytes
string_short bytes text (chars, are, spelled, is) =
    let inner = flat_map char_text chars in
    let len : length bytes ≡ length (34 ∷ (inner ++ 34 ∷ [])) = ap (λ (x : List ℕ). length x) spelled in
    omega (arith, length-append inner (34 ∷ []), chars_short chars text (sym is))
