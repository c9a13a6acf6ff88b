-- What stands before the place of a fault, and at it.
use Rattle.std.specs.Prelude.{ℕ, zero, suc, ◌≡◌, ◌+◌, ◌≤◌, ◌⊎◌, List, [], ◌∷◌, ◌++◌, length, take, drop, None, Err, IsTrue}
use Rattle.std.specs.List.{list_all}
use Rattle.std.specs.Str.{IsUtf8, IsValidUpTo}
use Rattle.doc_model.specs.declared.node.Node.{Node}
use Rattle.text_prefixes.specs.Prefixes.{Begins, IsLongestPrefix}
use Rattle.json_text.specs.declared.bad.JsonBad.{JsonBad}
use Rattle.json_text.specs.declared.bad.JsonBad.TheVariants as bad
use Rattle.json_text.specs.declared.fault.Fault.{Fault}
use Rattle.json_text.specs.Answers.{placed}
use Rattle.json_text.specs.Reading.{text_read}
use Rattle.json_text.specs.Numbers.{Literal, IsLiteral, literal_text, IsNumber}
use Rattle.json_text.specs.Strings.{Char, short, unit, is_char, char_text, string_text, unit_value, is_high, is_low}
use Rattle.json_text.specs.Grammar.{IsWhite, Padded, joined, null_text, true_text, false_text, IsJson}

-- number (RFC 8259, section 6), whatever it is worth
abbrev pub IsNumeral : List ℕ → Type 0
IsNumeral bytes = (l : Literal) × IsLiteral l × (bytes ≡ literal_text l)

-- string (section 7), whatever it is
abbrev pub IsQuoted : List ℕ → Type 0
IsQuoted bytes = (chars : List Char) × IsTrue (list_all is_char chars) × (bytes ≡ string_text chars)

-- member (section 4)
abbrev pub IsPair : (List ℕ → Type 0) → List ℕ → Type 0
IsPair IsText bytes =
    (name : List ℕ) × (value : List ℕ) × Padded IsQuoted name × Padded IsText value × (bytes ≡ name ++ 0x3A ∷ value)

abbrev pub Every : (List ℕ → Type 0) → List (List ℕ) → Type 0
Every IsPart [] = Unit {0}
Every IsPart (part ∷ parts) = IsPart part × Every IsPart parts

-- what stands between brackets: white space, or parts with a comma between each two
abbrev pub AreParts : (List ℕ → Type 0) → List ℕ → Type 0
AreParts IsPart inner =
    IsWhite inner
    ⊎ ((part : List ℕ) × (parts : List (List ℕ)) × IsPart part × Every IsPart parts × (inner ≡ joined (part ∷ parts)))

-- value (section 3), where it is no array and no object
abbrev pub IsPlainValue : List ℕ → Type 0
IsPlainValue bytes = (bytes ≡ null_text) ⊎ (bytes ≡ true_text) ⊎ (bytes ≡ false_text) ⊎ IsNumeral bytes ⊎ IsQuoted bytes

-- value (section 3), whatever it holds, in which at most so many arrays and objects enclose each other
unfoldable pub IsSpelled : ℕ → List ℕ → Type 0
IsSpelled zero bytes = IsPlainValue bytes
IsSpelled (suc depth) bytes =
    IsPlainValue bytes
    ⊎ ((inner : List ℕ) × AreParts (Padded (IsSpelled depth)) inner × (bytes ≡ 0x5B ∷ inner ++ 0x5D ∷ []))
    ⊎ ((inner : List ℕ) × AreParts (IsPair (IsSpelled depth)) inner × (bytes ≡ 0x7B ∷ inner ++ 0x7D ∷ []))

-- JSON text (section 2), whatever it holds and however deeply it nests
abbrev pub IsGrammatical : List ℕ → Type 0
IsGrammatical bytes = (depth : ℕ) × Padded (IsSpelled depth) bytes

-- some JSON text begins so, in which at most so many arrays and objects enclose each other
abbrev pub BeginsWithin : ℕ → List ℕ → Type 0
BeginsWithin depth front = Begins (Padded (IsSpelled depth)) front

-- the escape of a UTF-16 code unit (section 7) stands at the front, and these bytes behind it
abbrev pub UnitHere : List ℕ → ℕ → List ℕ → Type 0
UnitHere bytes u rest =
    (a : ℕ) × (b : ℕ) × (c : ℕ) × (d : ℕ) × IsTrue (is_char (unit a b c d)) × (u ≡ unit_value a b c d)
    × (bytes ≡ char_text (unit a b c d) ++ rest)

-- the whole escape of a low surrogate stands at the front
abbrev pub LowHere : List ℕ → Type 0
LowHere bytes = (u : ℕ) × (rest : List ℕ) × UnitHere bytes u rest × IsTrue (is_low u)

-- the escape of a surrogate without its partner stands at the front
abbrev pub LoneHere : List ℕ → Type 0
LoneHere bytes =
    (u : ℕ) × (rest : List ℕ) × UnitHere bytes u rest × (IsTrue (is_low u) ⊎ (IsTrue (is_high u) × (LowHere rest → ⊥)))

-- no number goes on with the byte behind it
abbrev pub IsWhole : List ℕ → List ℕ → Type 0
IsWhole text rest = (b : ℕ) (more : List ℕ) → rest ≡ b ∷ more → Begins IsNumeral (text ++ b ∷ []) → ⊥

-- a whole number that is out of range stands at the front
abbrev pub NumberHere : List ℕ → Type 0
NumberHere bytes = (text : List ℕ) × (rest : List ℕ) × IsNumber text None × IsWhole text rest × (bytes ≡ text ++ rest)

-- an array or an object begins at the front
abbrev pub BracketHere : List ℕ → Type 0
BracketHere bytes = (rest : List ℕ) × ((bytes ≡ 0x5B ∷ rest) ⊎ (bytes ≡ 0x7B ∷ rest))

-- an escape (section 7): of a letter, or of a code unit
abbrev pub IsEscape : List ℕ → Type 0
IsEscape bytes =
    ((b : ℕ) × IsTrue (is_char (short b)) × (bytes ≡ char_text (short b))) ⊎ ((u : ℕ) × UnitHere bytes u [])

-- null, true, false, a number or an escape
abbrev pub IsToken : List ℕ → Type 0
IsToken bytes =
    (bytes ≡ null_text) ⊎ (bytes ≡ true_text) ⊎ (bytes ≡ false_text) ⊎ IsNumeral bytes ⊎ IsEscape bytes

-- a token begins so, and this is none
abbrev pub IsUnfinished : List ℕ → Type 0
IsUnfinished tail = Begins IsToken tail × (IsToken tail → ⊥)

-- a text that is read begins so
abbrev pub BeginsRead : List ℕ → Type 0
BeginsRead front = (v : Node) × Begins (λ text. IsJson text v) front

-- a text that is read begins so, but for an unfinished token at the end; a space may follow, which ends a number
abbrev pub IsClear : List ℕ → Type 0
IsClear front =
    (head : List ℕ) × (tail : List ℕ) × BeginsRead (head ++ 0x20 ∷ []) × IsUnfinished tail × (front ≡ head ++ tail)

-- a value is due behind it: a line feed, which stands in no string, and null may follow
abbrev pub ValueDue : List ℕ → Type 0
ValueDue front = BeginsRead (front ++ 0x0A ∷ null_text)

-- a character of a string is due behind it: an x, which begins nothing else, may follow
abbrev pub CharDue : List ℕ → Type 0
CharDue front = BeginsRead (front ++ 0x78 ∷ [])

-- what stands before the place is UTF-8, begins some JSON text that isn't too deep, and has no fault
abbrev pub IsPlace : List ℕ → ℕ → Type 0
IsPlace bytes place =
    (place ≤ length bytes)
    × IsUtf8 (take place bytes) × BeginsWithin 128 (take place bytes) × IsClear (take place bytes)

-- a surrogate without its partner is escaped in a string
abbrev pub IsLone : List ℕ → ℕ → Type 0
IsLone bytes place = CharDue (take place bytes) × LoneHere (drop place bytes)

-- an array or an object begins as a value, with which the text is too deep
abbrev pub IsTooDeep : List ℕ → ℕ → Type 0
IsTooDeep bytes place =
    ValueDue (take place bytes) × BracketHere (drop place bytes) × (BeginsWithin 128 (take (place + 1) bytes) → ⊥)

-- a whole number that is out of range stands as a value
abbrev pub IsOutOfRange : List ℕ → ℕ → Type 0
IsOutOfRange bytes place = ValueDue (take place bytes) × NumberHere (drop place bytes)

-- what each fault tells of the bytes
abbrev pub FaultAt : List ℕ → JsonBad → Type 0
FaultAt bytes (bad.Syntax place) =
    IsPlace bytes place × IsLongestPrefix IsGrammatical bytes place × (IsGrammatical bytes → ⊥) × (IsValidUpTo bytes place → ⊥)
FaultAt bytes (bad.Utf8 place) = IsPlace bytes place × (IsValidUpTo bytes place ⊎ IsLone bytes place)
FaultAt bytes (bad.Depth place) = IsPlace bytes place × IsTooDeep bytes place
FaultAt bytes (bad.Number place) = IsPlace bytes place × IsOutOfRange bytes place
FaultAt bytes bad.Memory = Unit {0}

-- the text is refused so: this is what the fault says, and it is the first one that reading from left to right meets
pub record IsRefusedText (bytes : List ℕ) (why : JsonBad) : Type 0 where
  pub says : FaultAt bytes why
  pub fault : Fault
  pub read : text_read bytes ≡ Err fault
  pub at : why ≡ placed (length bytes) fault
