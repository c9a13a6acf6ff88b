-- Reading from left to right: the value at the front and what is behind it, or the first fault.
use Rattle.std.specs.Prelude.{ℕ, zero, suc, ℤ, ◌≡◌, ◌==◌, ◌+◌, ◌*◌, Bool, true, false, ◌&&◌, ◌||◌, not, List, [], ◌∷◌, ◌++◌, length, take, drop, Option, Some, None, Result, Ok, Err, if◌then◌else◌}
use Rattle.std.specs.List.{prefix_len}
use Rattle.std.specs.Char.{encode_utf8}
use Rattle.std.specs.Str.Lossy.{utf8_valid_len}
use Rattle.doc_model.specs.declared.node.Node.{Node}
use Rattle.doc_model.specs.declared.node.Node.TheVariants as node
use Rattle.json_text.specs.declared.fault.Fault.{Fault}
use Rattle.json_text.specs.declared.fault.Fault.TheVariants as fault
use Rattle.json_text.specs.declared.fault.Stop.{Stop}
use Rattle.json_text.specs.declared.fault.Stop.TheVariants as stop
use Rattle.json_text.specs.declared.lead.Lead.{Lead}
use Rattle.json_text.specs.declared.lead.Lead.TheVariants as lead
use Rattle.json_text.specs.Numbers.{is_digit, is_exponent_letter, worth}
use Rattle.json_text.specs.Strings.{is_plain, is_hex, hex_value, short_escape, is_high, is_low, pair_value}
use Rattle.json_text.specs.Grammar.{is_white, Member, last_values, null_text, true_text, false_text}

infixl 10 ◌>>=◌
abbrev pub ◌>>=◌ : {A B : Type 0} → Result A Fault → (A → Result B Fault) → Result B Fault
(Ok x) >>= f = f x
(Err e) >>= f = Err e

-- what a function returned, seen by view, is what reading gives, unless memory ran out
abbrev pub Fails : {Y : Type 0} → Stop → Result Y Fault → Type 0
Fails stop.Memory read = Unit {0}
Fails (stop.Fault f) read = read ≡ Err f

abbrev pub Gives : {X Y : Type 0} → (X → Y) → Result X Stop → Result Y Fault → Type 0
Gives view (Ok x) read = read ≡ Ok (view x)
Gives view (Err e) read = Fails e read

abbrev pub Tells : {X Y : Type 0} → (X → Y) → Result X Fault → Result Y Fault → Type 0
Tells view (Ok x) read = read ≡ Ok (view x)
Tells view (Err f) read = read ≡ Err f

-- a value and the bytes behind it, or a fault; a fault's place is told by how many bytes are left there
abbrev pub Read : Type 0 → Type 0
Read X = Result (X × List ℕ) Fault

abbrev pub behind_white : List ℕ → List ℕ
behind_white bytes = drop (prefix_len is_white bytes) bytes

-- the bytes can't go on so: no character begins here, or none that the grammar takes
abbrev pub unexpected : List ℕ → Fault
unexpected bytes = if (utf8_valid_len bytes == 0) && not (length bytes == 0) then fault.Utf8 (length bytes) else fault.Syntax (length bytes)

-- what is behind this byte, where it stands at the front
abbrev pub strip : ℕ → List ℕ → Option (List ℕ)
strip wanted [] = None
strip wanted (b ∷ bytes) = if b == wanted then Some bytes else None

abbrev pub or_fault : {X : Type 0} → Fault → Option X → Result X Fault
or_fault f None = Err f
or_fault f (Some x) = Ok x

-- this byte stands here
abbrev pub byte_at : ℕ → List ℕ → Result (List ℕ) Fault
byte_at wanted bytes = or_fault (unexpected bytes) (strip wanted bytes)

-- these bytes stand here
unfoldable pub word_at : List ℕ → List ℕ → Result (List ℕ) Fault
word_at [] bytes = Ok bytes
word_at (wanted ∷ more) bytes = byte_at wanted bytes >>= λ rest. word_at more rest

-- step after step, each of which adds to the list and says whether another one follows; at most so many
abbrev pub with_front : {Y : Type 0} → List Y → Read (List Y) → Read (List Y)
with_front front read = read >>= λ x. Ok (front ++ x.0, x.1)

abbrev pub turn : {Y : Type 0} → (List ℕ → Read (List Y)) → (List Y × Bool) × List ℕ → Read (List Y)
turn others x = if x.0.1 then with_front x.0.0 (others x.1) else Ok (x.0.0, x.1)

unfoldable pub repeated : {Y : Type 0} → (List ℕ → Read (List Y × Bool)) → ℕ → List ℕ → Read (List Y)
repeated step zero bytes = Err (unexpected bytes)
repeated step (suc n) bytes = step bytes >>= λ x. turn (repeated step n) x

-- strings

abbrev pub hex_of : ℕ → Option ℕ
hex_of b = if is_hex b then Some (hex_value b) else None

unfoldable pub hex_at : List ℕ → Read ℕ
hex_at [] = Err (unexpected [])
hex_at (b ∷ bytes) = or_fault (unexpected (b ∷ bytes)) (hex_of b) >>= λ value. Ok (value, bytes)

-- four hexadecimal digits
unfoldable pub unit_at : List ℕ → Read ℕ
unit_at bytes = do
  a ← hex_at bytes
  b ← hex_at a.1
  c ← hex_at b.1
  d ← hex_at c.1
  Ok (((a.0 * 16 + b.0) * 16 + c.0) * 16 + d.0, d.1)

abbrev pub escape_head : List ℕ
escape_head = 0x5C ∷ 0x75 ∷ []

abbrev pub low_of : Read ℕ → Option (ℕ × List ℕ)
low_of (Err f) = None
low_of (Ok u) = if is_low u.0 then Some u else None

-- the escape of a low surrogate, where a whole one stands here
unfoldable pub low_at : List ℕ → Option (ℕ × List ℕ)
low_at bytes = low_of (word_at escape_head bytes >>= λ rest. unit_at rest)

abbrev pub pair_with : ℕ → Option (ℕ × List ℕ) → Option (ℕ × List ℕ)
pair_with high None = None
pair_with high (Some low) = Some (pair_value high low.0, low.1)

-- the character of an escaped code unit, and of its partner where it needs one
unfoldable pub char_at : ℕ → List ℕ → Option (ℕ × List ℕ)
char_at u bytes =
    if is_high u then pair_with u (low_at bytes)
    else if is_low u then None
    else Some (u, bytes)

-- what is behind a backslash, where so many bytes are left from the backslash on
unfoldable pub escape_at : ℕ → List ℕ → Read ℕ
escape_at left [] = Err (unexpected [])
escape_at left (b ∷ bytes) =
    if b == 0x75 then (unit_at bytes >>= λ u. or_fault (fault.Utf8 left) (char_at u.0 u.1))
    else or_fault (unexpected (b ∷ bytes)) (short_escape b) >>= λ c. Ok (c, bytes)

-- the UTF-8 of a character, where there is one
abbrev pub char_bytes : Option ℕ → List ℕ
char_bytes None = []
char_bytes (Some c) = encode_utf8 c

-- what ends a run of characters: the quotation mark, or an escaped character and then others
unfoldable pub end_at : List ℕ → Read (List ℕ × Bool)
end_at [] = Err (unexpected [])
end_at (b ∷ bytes) =
    if b == 0x22 then Ok (([], false), bytes)
    else if b == 0x5C then (escape_at (suc (length bytes)) bytes >>= λ c. Ok ((encode_utf8 c.0, true), c.1))
    else Err (unexpected (b ∷ bytes))

-- a run of characters that aren't escaped
unfoldable pub run_at : List ℕ → Read (List ℕ)
run_at bytes =
    let n = prefix_len is_plain bytes in
    let valid = utf8_valid_len (take n bytes) in
    if valid == length (take n bytes) then Ok (take n bytes, drop n bytes) else Err (fault.Utf8 (length (drop valid bytes)))

-- a run of characters, and what ends it
unfoldable pub piece_at : List ℕ → Read (List ℕ × Bool)
piece_at bytes = do
  run ← run_at bytes
  end ← end_at run.1
  Ok ((run.0 ++ end.0.0, end.0.1), end.1)

-- the rest of a string, behind its quotation mark
unfoldable pub text_at : List ℕ → Read (List ℕ)
text_at bytes = repeated piece_at (length bytes) bytes

-- numbers

-- a digit and those behind it
unfoldable pub digits_at : List ℕ → Read (List ℕ)
digits_at bytes =
    let n = prefix_len is_digit bytes in
    if n == 0 then Err (unexpected bytes) else Ok (take n bytes, drop n bytes)

unfoldable pub int_at : List ℕ → Read (List ℕ)
int_at [] = digits_at []
int_at (b ∷ bytes) = if b == 0x30 then Ok (b ∷ [], bytes) else digits_at (b ∷ bytes)

unfoldable pub fraction_at : List ℕ → Read (List ℕ)
fraction_at [] = Ok ([], [])
fraction_at (b ∷ bytes) = if b == 0x2E then digits_at bytes else Ok ([], b ∷ bytes)

-- a sign that may be left out, and whether it is a minus
abbrev pub sign_of : List ℕ → Bool × List ℕ
sign_of [] = (false, [])
sign_of (b ∷ bytes) =
    if b == 0x2D then (true, bytes)
    else if b == 0x2B then (false, bytes)
    else (false, b ∷ bytes)

-- an exponent that may be left out: whether it is below 0, and its digits
unfoldable pub exponent_at : List ℕ → Read (Bool × List ℕ)
exponent_at [] = Ok ((false, []), [])
exponent_at (b ∷ bytes) =
    if is_exponent_letter b then (digits_at (sign_of bytes).1 >>= λ x. Ok (((sign_of bytes).0, x.0), x.1))
    else Ok ((false, []), b ∷ bytes)

abbrev pub minus_of : List ℕ → Bool × List ℕ
minus_of [] = (false, [])
minus_of (b ∷ bytes) = if b == 0x2D then (true, bytes) else (false, b ∷ bytes)

-- a whole literal, and what it is worth; where that is out of range the fault is at its first byte
unfoldable pub number_at : List ℕ → Read ℤ
number_at bytes = do
  whole ← int_at (minus_of bytes).1
  fraction ← fraction_at whole.1
  exponent ← exponent_at fraction.1
  n ← or_fault (fault.Number (length bytes)) (worth (minus_of bytes).0 whole.0 fraction.0 exponent.0.0 exponent.0.1)
  Ok (n, exponent.1)

-- values

-- what a value may begin with
abbrev pub lead_by : ℕ → Lead
lead_by b =
    if b == 0x22 then lead.Quote
    else if b == 0x7B then lead.Brace
    else if b == 0x5B then lead.Bracket
    else if b == 0x74 then lead.True
    else if b == 0x66 then lead.False
    else if b == 0x6E then lead.Null
    else if (b == 0x2D) || is_digit b then lead.Number
    else lead.Other

abbrev pub lead_of : List ℕ → Lead
lead_of [] = lead.Other
lead_of (b ∷ bytes) = lead_by b

-- a value that is no array and no object
unfoldable pub scalar_at : Lead → List ℕ → Read Node
scalar_at lead.Quote bytes = text_at (drop 1 bytes) >>= λ x. Ok (node.Text x.0, x.1)
scalar_at lead.True bytes = word_at true_text bytes >>= λ rest. Ok (node.Bool true, rest)
scalar_at lead.False bytes = word_at false_text bytes >>= λ rest. Ok (node.Bool false, rest)
scalar_at lead.Null bytes = word_at null_text bytes >>= λ rest. Ok (node.Null, rest)
scalar_at lead.Number bytes = number_at bytes >>= λ x. Ok (node.Num x.0, x.1)
scalar_at _ bytes = Err (unexpected bytes)

-- a comma, or the bracket that closes; whether another one follows
unfoldable pub separator_at : ℕ → List ℕ → Read Bool
separator_at closing [] = Err (unexpected [])
separator_at closing (b ∷ bytes) =
    if b == 0x2C then Ok (true, bytes)
    else if b == closing then Ok (false, bytes)
    else Err (unexpected (b ∷ bytes))

-- an item, and what is behind it
unfoldable pub item_at : (List ℕ → Read Node) → List ℕ → Read (List Node × Bool)
item_at value bytes = do
  item ← value (behind_white bytes)
  more ← separator_at 0x5D (behind_white item.1)
  Ok ((item.0 ∷ [], more.0), more.1)

unfoldable pub name_at : List ℕ → Read (List ℕ)
name_at bytes = do
  text ← byte_at 0x22 bytes
  name ← text_at text
  rest ← byte_at 0x3A (behind_white name.1)
  Ok (name.0, rest)

unfoldable pub member_at : (List ℕ → Read Node) → List ℕ → Read (List Member × Bool)
member_at value bytes = do
  name ← name_at (behind_white bytes)
  inner ← value (behind_white name.1)
  more ← separator_at 0x7D (behind_white inner.1)
  Ok (((name.0, inner.0) ∷ [], more.0), more.1)

-- nothing, or one after the other, up to the bracket that closes
abbrev pub unless_closed : {Y : Type 0} → Read (List Y) → Option (List ℕ) → Read (List Y)
unless_closed others (Some rest) = Ok ([], rest)
unless_closed others None = others

unfoldable pub items_at : (List ℕ → Read Node) → List ℕ → Read (List Node)
items_at value bytes = unless_closed (repeated (item_at value) (length bytes) bytes) (strip 0x5D (behind_white bytes))

unfoldable pub members_at : (List ℕ → Read Node) → List ℕ → Read (List Member)
members_at value bytes = unless_closed (repeated (member_at value) (length bytes) bytes) (strip 0x7D (behind_white bytes))

-- a value, whose items and members are read so
unfoldable pub value_by : (List ℕ → Read Node) → Lead → List ℕ → Read Node
value_by value lead.Bracket bytes = items_at value (drop 1 bytes) >>= λ x. Ok (node.Items x.0, x.1)
value_by value lead.Brace bytes = members_at value (drop 1 bytes) >>= λ x. Ok (node.Members (last_values x.0), x.1)
value_by value l bytes = scalar_at l bytes

-- the same where no array and no object may begin
unfoldable pub flat_by : Lead → List ℕ → Read Node
flat_by lead.Bracket bytes = Err (fault.Depth (length bytes))
flat_by lead.Brace bytes = Err (fault.Depth (length bytes))
flat_by l bytes = scalar_at l bytes

-- a value in which at most so many arrays and objects enclose each other
unfoldable pub value_at : ℕ → List ℕ → Read Node
value_at zero bytes = flat_by (lead_of bytes) bytes
value_at (suc room) bytes = value_by (value_at room) (lead_of bytes) bytes

abbrev pub at_end : Node × List ℕ → Result Node Fault
at_end (v, []) = Ok v
at_end (v, b ∷ bytes) = Err (unexpected (b ∷ bytes))

-- a whole text
unfoldable pub text_read : List ℕ → Result Node Fault
text_read bytes = value_at 128 (behind_white bytes) >>= λ x. at_end (x.0, behind_white x.1)
