-- The machine takes each value of the grammar that is no array and no object.
use Rattle.std.proofs.Common.{◌≡◌, ℕ, ◌⊎◌, inl, inr, true, cond, List, [], ◌∷◌, ◌++◌, refl, sym, ap, ◌∙◌, append_assoc}
use Rattle.std.specs.List.{flat_map}
use Rattle.json_text.specs.declared.lead.Lead.TheVariants as lead
use Rattle.json_text.specs.Numbers.{fraction_text, exponent_text}
use Rattle.json_text.specs.Strings.{char_text}
use Rattle.json_text.specs.Grammar.{Padded}
use Rattle.json_text.specs.Faults.{IsNumeral, IsQuoted, IsPlainValue}
use Rattle.json_text.specs.Reading.{lead_by, lead_of}
use Rattle.json_text.proofs.Spelled.{ends_value, no_digit, no_letter}
use Rattle.json_text.proofs.OnlyNumbers.{exponent_no_digit, exponent_no_point, fraction_no_digit}
use Rattle.json_text.proofs.OnlyScalars.{Opens, opens_stops, int_digit, number_by}
use Rattle.json_text.proofs.OnlyParts.{white_ends}
use Rattle.json_text.proofs.Machine.{Due, byte, white, value, chars, accepts, taken, white_skip, white_run, word_run}
use Rattle.json_text.proofs.AcceptsPlain.{chars_run, quote_run, IntEnds, fraction_ends, ExponentEnds, LiteralEnds, literal_run}

exponent_ends : (exponent bytes : List ℕ) → ends_value bytes ≡ true → ExponentEnds exponent bytes
unfolding ExponentEnds
exponent_ends [] bytes e = no_letter bytes e
exponent_ends (b ∷ bs) bytes e = no_digit bytes e

pub numeral_run : (r : ℕ) (text bytes : List ℕ) (stack : List Due) → IsNumeral text → ends_value bytes ≡ true →
    accepts (text ++ bytes) (value r ∷ stack) ≡ accepts bytes stack
unfolding IntEnds
numeral_run r text bytes stack (l, ok, spelled) e =
    let y = exponent_text l.letter l.sign l.exponent ++ bytes in
    let s = exponent_no_digit l.letter l.sign l.exponent bytes ok.letter e in
    let p = exponent_no_point l.letter l.sign l.exponent bytes ok.letter e in
    let ends : LiteralEnds l bytes = record {
      int = inr (fraction_no_digit l.fraction y s);
      fraction = fraction_ends
          l.fraction y s p;
      exponent = exponent_ends l.exponent bytes e;
    } in
    rw spelled (literal_run r l bytes stack ok ends)

pub quoted_chars : (text bytes : List ℕ) (stack : List Due) → IsQuoted text →
    (rest : List ℕ) × (text ++ bytes ≡ 34 ∷ rest) × (accepts rest (chars ∷ stack) ≡ accepts bytes stack)
quoted_chars text bytes stack (cs, are, spelled) = (
  flat_map char_text cs ++ 34 ∷ bytes,
  ap (λ (x : List ℕ). x ++ bytes) spelled ∙ ap (λ (x : List ℕ). 34 ∷ x)
      (append_assoc (flat_map char_text cs) (34 ∷ []) bytes),
  chars_run cs (34 ∷ bytes) stack are ∙ quote_run bytes stack,
)

quoted_run : (r : ℕ) (text bytes : List ℕ) (stack : List Due) → IsQuoted text →
    accepts (text ++ bytes) (value r ∷ stack) ≡ accepts bytes stack
quoted_run r text bytes stack is =
    let (rest, spelled, run) = quoted_chars text bytes stack is in
    ap (λ (x : List ℕ). accepts x (value r ∷ stack)) spelled ∙ taken (value r) 34 (chars ∷ []) rest stack refl ∙ run

-- these bytes may stand behind the text: any, where it is no number
abbrev pub Fits : List ℕ → List ℕ → Type 0
Fits text bytes = (ends_value bytes ≡ true) ⊎ (lead_of text ≡ lead.Number → ⊥)

pub numeral_opens : (text : List ℕ) → IsNumeral text →
    (b : ℕ) × (others : List ℕ) × (text ≡ b ∷ others) × (lead_by b ≡ lead.Number)
numeral_opens text (l, ok, spelled) =
    let o = number_by l.minus l.whole (fraction_text l.fraction ++ exponent_text l.letter l.sign l.exponent)
    (int_digit l.whole ok.whole) in (
      o.byte,
      o.others,
      spelled ∙ regroup (cond l.minus (45 ∷ []) [] ++ l.whole) (fraction_text l.fraction)
          (exponent_text l.letter l.sign l.exponent) ∙ o.is,
      o.lead,
    )
  where
    regroup : (a c d : List ℕ) → a ++ c ++ d ≡ a ++ (c ++ d)
    regroup a c d = append_assoc a c d

pub plain_run : (r : ℕ) (text bytes : List ℕ) (stack : List Due) → IsPlainValue text → Fits text bytes →
    accepts (text ++ bytes) (value r ∷ stack) ≡ accepts bytes stack
plain_run r text bytes stack (inl is) e =
    rw is (taken (value r) 110 (byte 117 ∷ byte 108 ∷ byte 108 ∷ []) (117 ∷ 108 ∷ 108 ∷ bytes) stack refl
    ∙ word_run (117 ∷ 108 ∷ 108 ∷ []) bytes stack)
plain_run r text bytes stack (inr (inl is)) e =
    rw is (taken (value r) 116 (byte 114 ∷ byte 117 ∷ byte 101 ∷ []) (114 ∷ 117 ∷ 101 ∷ bytes) stack refl
    ∙ word_run (114 ∷ 117 ∷ 101 ∷ []) bytes stack)
plain_run r text bytes stack (inr (inr (inl is))) e =
    rw is (taken (value r) 102 (byte 97 ∷ byte 108 ∷ byte 115 ∷ byte 101 ∷ []) (97 ∷ 108 ∷ 115 ∷ 101 ∷ bytes) stack refl
    ∙ word_run (97 ∷ 108 ∷ 115 ∷ 101 ∷ []) bytes stack)
plain_run r text bytes stack (inr (inr (inr (inl is)))) (inl e) = numeral_run r text bytes stack is e
plain_run r text bytes stack (inr (inr (inr (inl is)))) (inr other) =
    let (b, others, spelled, first) = numeral_opens text is in
    absurd (other (ap (λ (x : List ℕ). lead_of x) spelled ∙ first))
plain_run r text bytes stack (inr (inr (inr (inr is)))) e = quoted_run r text bytes stack is

pub plain_opens : (text : List ℕ) → IsPlainValue text → Opens text
plain_opens text (inl is) = record { byte = 110; others = 117 ∷ 108 ∷ 108 ∷ []; is = is; known = λ z. cc }
plain_opens text (inr (inl is)) = record { byte = 116; others = 114 ∷ 117 ∷ 101 ∷ []; is = is; known = λ z. cc }
plain_opens text (inr (inr (inl is))) =
    record { byte = 102; others = 97 ∷ 108 ∷ 115 ∷ 101 ∷ []; is = is; known = λ z. cc }
plain_opens text (inr (inr (inr (inl is)))) =
    let (b, others, spelled, first) = numeral_opens text is in
    record {
      byte = b;
      others = others;
      is = spelled;
      known = λ z. let y : lead.Number ≡ lead.Other = sym first
          ∙ z in cc;
    }
plain_opens text (inr (inr (inr (inr (cs, are, spelled))))) =
    record { byte = 34; others = flat_map char_text cs ++ 34 ∷ []; is = spelled; known = λ z. cc }

-- ---- values between white space

-- a text of that is taken as a value with so much room
pub record Taken (r : ℕ) (Is : List ℕ → Type 0) : Type 0 where
  pub opens : (text : List ℕ) → Is text → Opens text
  pub runs : (text bytes : List ℕ) (stack : List Due) → Is text → Fits text bytes →
      accepts (text ++ bytes) (value r ∷ stack) ≡ accepts bytes stack

pub regroup : (a b c tail : List ℕ) → a ++ b ++ c ++ tail ≡ a ++ (b ++ (c ++ tail))
regroup a b c tail = simp append_assoc

pub padded_run : (r : ℕ) (Is : List ℕ → Type 0) → Taken r Is → (part bytes : List ℕ) (stack : List Due) →
    Padded Is part → ends_value bytes ≡ true →
    accepts (part ++ bytes) (white ∷ value r ∷ white ∷ stack) ≡ accepts bytes (white ∷ stack)
padded_run r Is t part bytes stack p e =
    let end = p.behind ++ bytes in
    let start = p.text ++ end in
    ap (λ (x : List ℕ). accepts x (white ∷ value r ∷ white ∷ stack)) (ap (λ (x : List ℕ). x ++ bytes) p.spelled
    ∙ regroup p.before p.text p.behind bytes)
    ∙ white_run p.before start (value r ∷ white ∷ stack) p.white_before
    ∙ white_skip start (value r ∷ white ∷ stack) (opens_stops p.text end (t.opens p.text p.is_text))
    ∙ t.runs p.text end (white ∷ stack) p.is_text (inl (white_ends p.behind bytes p.white_behind e))
    ∙ white_run p.behind bytes stack p.white_behind
