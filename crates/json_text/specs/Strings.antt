-- Strings (RFC 8259, section 7): how they are spelled, and which text they are.
use Rattle.std.specs.Prelude.{ℕ, ◌≡◌, ◌+◌, ◌-◌, ◌*◌, ◌==◌, Bool, true, false, ◌&&◌, ◌||◌, not, nat_le, nat_lt, List, [], ◌∷◌, ◌++◌, Option, Some, None, IsTrue, if◌then◌else◌}
use Rattle.std.specs.List.{list_all, flat_map}
use Rattle.std.specs.Char.{encode_utf8}

-- a byte of a character that isn't escaped: no quotation mark, backslash or control character
abbrev pub is_plain : ℕ → Bool
is_plain b = nat_le 0x20 b && not (b == 0x22) && not (b == 0x5C)

abbrev pub is_hex : ℕ → Bool
is_hex b = (nat_le 0x30 b && nat_le b 0x39) || (nat_le 0x41 b && nat_le b 0x46) || (nat_le 0x61 b && nat_le b 0x66)

-- what a hexadecimal digit is worth
abbrev pub hex_value : ℕ → ℕ
hex_value b = if nat_le 0x61 b then b - 0x57 else if nat_le 0x41 b then b - 0x37 else b - 0x30

-- which character a letter behind a backslash is: " \ / b f n r t
abbrev pub short_escape : ℕ → Option ℕ
short_escape b =
    if (b == 0x22) || (b == 0x5C) || (b == 0x2F) then Some b
    else if b == 0x62 then Some 0x08
    else if b == 0x66 then Some 0x0C
    else if b == 0x6E then Some 0x0A
    else if b == 0x72 then Some 0x0D
    else if b == 0x74 then Some 0x09
    else None

-- char: a byte that isn't escaped, a backslash and a letter, or a backslash, u and four hexadecimal digits
pub data Char : Type 0 where
  plain : ℕ → Char
  short : ℕ → Char
  unit : (a b c d : ℕ) → Char

abbrev pub is_some_escape : Option ℕ → Bool
is_some_escape None = false
is_some_escape (Some c) = true

abbrev pub is_char : Char → Bool
is_char (plain b) = is_plain b
is_char (short b) = is_some_escape (short_escape b)
is_char (unit a b c d) = is_hex a && is_hex b && is_hex c && is_hex d

abbrev pub char_text : Char → List ℕ
char_text (plain b) = b ∷ []
char_text (short b) = 0x5C ∷ b ∷ []
char_text (unit a b c d) = 0x5C ∷ 0x75 ∷ a ∷ b ∷ c ∷ d ∷ []

-- string: quotation-mark *char quotation-mark
abbrev pub string_text : List Char → List ℕ
string_text chars = 0x22 ∷ flat_map char_text chars ++ 0x22 ∷ []

-- the UTF-16 code unit of four digits
abbrev pub unit_value : ℕ → ℕ → ℕ → ℕ → ℕ
unit_value a b c d = ((hex_value a * 16 + hex_value b) * 16 + hex_value c) * 16 + hex_value d

abbrev pub is_high : ℕ → Bool
is_high u = nat_le 0xD800 u && nat_lt u 0xDC00

abbrev pub is_low : ℕ → Bool
is_low u = nat_le 0xDC00 u && nat_lt u 0xE000

-- the character of a surrogate pair
abbrev pub pair_value : ℕ → ℕ → ℕ
pair_value high low = 0x10000 + (high - 0xD800) * 0x400 + (low - 0xDC00)

abbrev pub after : List ℕ → Option (List ℕ) → Option (List ℕ)
after bytes None = None
after bytes (Some more) = Some (bytes ++ more)

abbrev pub or_else : Option ℕ → ℕ
or_else None = 0
or_else (Some c) = c

-- a high surrogate and the character behind it
abbrev pub paired : ℕ → ℕ → Option (List ℕ) → Option (List ℕ)
paired high low more = if is_low low then after (encode_utf8 (pair_value high low)) more else None

-- the text in UTF-8; nothing where an escape names a surrogate without its partner
abbrev pub text_of : List Char → Option (List ℕ)
text_of [] = Some []
text_of (plain b ∷ chars) = after (b ∷ []) (text_of chars)
text_of (short b ∷ chars) = after (or_else (short_escape b) ∷ []) (text_of chars)
text_of (unit a b c d ∷ []) =
    let u = unit_value a b c d in
    if is_high u || is_low u then None else Some (encode_utf8 u)
text_of (unit a b c d ∷ unit e f g h ∷ chars) =
    let u = unit_value a b c d in
    if is_high u then paired u (unit_value e f g h) (text_of chars)
    else if is_low u then None
    else after (encode_utf8 u) (text_of (unit e f g h ∷ chars))
text_of (unit a b c d ∷ char ∷ chars) =
    let u = unit_value a b c d in
    if is_high u || is_low u then None else after (encode_utf8 u) (text_of (char ∷ chars))

-- the bytes are a string, which is this text: nothing where a surrogate is alone
abbrev pub IsString : List ℕ → Option (List ℕ) → Type 0
IsString bytes text = (chars : List Char) × IsTrue (list_all is_char chars) × (bytes ≡ string_text chars) × (text ≡ text_of chars)
