-- How the texts of the grammar begin, and that those without brackets are read as what they are.
use Rattle.std.proofs.Common.{◌≡◌, ℕ, ℤ, ◌==◌, inl, inr, Bool, true, false, not, cond, List, [], ◌∷◌, ◌++◌, drop, Some, None, Ok, refl, sym, ap, ◌∙◌, append_assoc, arith}
use Rattle.std.proofs.lemmas.Bool.{eqb-true, false_from_ne_true, not_from_false}
use Rattle.std.proofs.lemmas.Bool.Decides.{nat_tests}
use Rattle.std.specs.List.{list_all}
use Rattle.std.specs.Str.{IsUtf8}
use Rattle.doc_model.specs.declared.node.Node.{Node}
use Rattle.json_text.specs.declared.lead.Lead.{Lead}
use Rattle.json_text.specs.declared.lead.Lead.TheVariants as lead
use Rattle.json_text.specs.Numbers.{is_digit, is_int, fraction_text, exponent_text, IsNumber}
use Rattle.json_text.specs.Strings.{IsString}
use Rattle.json_text.specs.Grammar.{is_white, null_text, true_text, false_text, IsScalar}
use Rattle.json_text.specs.Reading.{strip, lead_by, lead_of, scalar_at}
use Rattle.json_text.proofs.Spelled.{stops, word_here, ends_value}
use Rattle.json_text.proofs.OnlyNumbers.{two_parts, number_here}
use Rattle.json_text.proofs.OnlyStrings.{string_here}

pub record Opens (text : List ℕ) : Type 0 where
  pub byte : ℕ
  pub others : List ℕ
  pub is : text ≡ byte ∷ others
  pub known : lead_by byte ≡ lead.Other → ⊥

pub white_other : (b : ℕ) → is_white b ≡ true → lead_by b ≡ lead.Other
white_other b h = grind (arith, nat_tests)

digit_lead : (b : ℕ) → is_digit b ≡ true → lead_by b ≡ lead.Number
digit_lead b h = grind (arith, nat_tests)

pub opens_stops : (text tail : List ℕ) → Opens text → stops is_white (text ++ tail) ≡ true
opens_stops text tail o =
    let no : is_white o.byte ≡ false = false_from_ne_true (is_white o.byte) (λ h. o.known (white_other o.byte h)) in
    rw o.is (not_from_false (is_white o.byte) no)

pub closing_gone : (closing : ℕ) (text tail : List ℕ) → lead_by closing ≡ lead.Other → Opens text →
    strip closing (text ++ tail) ≡ None
closing_gone closing text tail c o =
    let no : (o.byte == closing) ≡ false = false_from_ne_true (o.byte == closing)
    (λ h. o.known (ap (λ (b : ℕ). lead_by b) (eqb-true o.byte closing h) ∙ c)) in
    rw (o.is, no) refl

-- what a whole number begins with
pub record Digit (whole : List ℕ) : Type 0 where
  pub byte : ℕ
  pub others : List ℕ
  pub is : whole ≡ byte ∷ others
  pub digit : is_digit byte ≡ true

pub int_digit : (whole : List ℕ) → is_int whole ≡ true → Digit whole
int_digit [] h = absurd cc
int_digit (b ∷ []) h = record { byte = b; others = []; is = refl; digit = h }
int_digit (b ∷ c ∷ bs) h =
    let p = two_parts (not (b == 48)) (list_all is_digit (b ∷ c ∷ bs)) h in
    let q = two_parts (is_digit b) (list_all is_digit (c ∷ bs)) p.1 in
    record { byte = b; others = c ∷ bs; is = refl; digit = q.0 }

pub record NumberOpens (text : List ℕ) : Type 0 where
  pub byte : ℕ
  pub others : List ℕ
  pub is : text ≡ byte ∷ others
  pub lead : lead_by byte ≡ lead.Number

pub number_by : (minus : Bool) (whole tail : List ℕ) → Digit whole →
    NumberOpens (cond minus (45 ∷ []) [] ++ whole ++ tail)
number_by true whole tail d = record { byte = 45; others = whole ++ tail; is = refl; lead = refl }
number_by false whole tail d =
    record {
      byte = d.byte;
      others = d.others ++ tail;
      is = ap (λ (x : List ℕ). x ++ tail) d.is;
      lead = digit_lead
          d.byte d.digit;
    }

number_opens : (text : List ℕ) (n : ℤ) → IsNumber text (Some n) → NumberOpens text
number_opens text n (l, ok, spelled, w) =
    let o = number_by l.minus l.whole (fraction_text l.fraction ++ exponent_text l.letter l.sign l.exponent)
    (int_digit l.whole ok.whole) in
    record {
      byte = o.byte;
      others = o.others;
      is = spelled ∙ regroup (cond l.minus (45 ∷ []) [] ++ l.whole)
          (fraction_text l.fraction) (exponent_text l.letter l.sign l.exponent) ∙ o.is;
      lead = o.lead;
    }
  where
    regroup : (a c d : List ℕ) → a ++ c ++ d ≡ a ++ (c ++ d)
    regroup a c d = append_assoc a c d

-- ---- scalars

unfoldable pub IsFlat : Lead → Type 0
IsFlat lead.Bracket = ⊥
IsFlat lead.Brace = ⊥
IsFlat lead.Other = ⊥
IsFlat _ = Unit {0}

pub record ScalarRead (text : List ℕ) (v : Node) (rest : List ℕ) : Type 0 where
  pub lead : Lead
  pub is : lead_of (text ++ rest) ≡ lead
  pub flat : IsFlat lead
  pub read : scalar_at lead (text ++ rest) ≡ Ok (v, rest)

pub scalar_here : (text : List ℕ) (v : Node) (rest : List ℕ) → IsScalar text v → IsUtf8 (text ++ rest) →
    ends_value rest ≡ true → ScalarRead text v rest
unfolding scalar_at IsFlat
scalar_here text v rest (inl (t, is)) u e =
    rw (t, is) (record { lead = lead.Null; is = refl; flat = tt; read = rw (word_here null_text rest) refl })
scalar_here text v rest (inr (inl (t, is))) u e =
    rw (t, is) (record { lead = lead.True; is = refl; flat = tt; read = rw (word_here true_text rest) refl })
scalar_here text v rest (inr (inr (inl (t, is)))) u e =
    rw (t, is) (record { lead = lead.False; is = refl; flat = tt; read = rw (word_here false_text rest) refl })
scalar_here text v rest (inr (inr (inr (inl (n, number, is))))) u e =
    let o = number_opens text n number in
    rw is (record {
      lead = lead.Number;
      is = rw o.is o.lead;
      flat = tt;
      read = rw (number_here text n rest number e)
          refl;
    })
scalar_here text v rest (inr (inr (inr (inr (t, string, is))))) u e =
    let s = string_here text t rest string u in
    rw is (record { lead = lead.Quote; is = ap (λ (x : List ℕ). lead_of x) s.0; flat = tt; read = rw s.1 refl })

pub string_opens : (text t : List ℕ) → IsString text (Some t) → Opens text
string_opens text t (chars, are, spelled, is) =
    record {
      byte = 34;
      others = drop 1 text;
      is = spelled ∙ ap (λ (x : List ℕ). 34 ∷ drop 1 x)
          (sym spelled);
      known = λ z. cc;
    }

pub scalar_opens : (text : List ℕ) (v : Node) → IsScalar text v → Opens text
scalar_opens text v (inl (t, is)) = record { byte = 110; others = drop 1 null_text; is = t; known = λ z. cc }
scalar_opens text v (inr (inl (t, is))) = record { byte = 116; others = drop 1 true_text; is = t; known = λ z. cc }
scalar_opens text v (inr (inr (inl (t, is)))) =
    record { byte = 102; others = drop 1 false_text; is = t; known = λ z. cc }
scalar_opens text v (inr (inr (inr (inl (n, number, is))))) =
    let o = number_opens text n number in
    record {
      byte = o.byte;
      others = o.others;
      is = o.is;
      known = λ z. let y : lead.Number ≡ lead.Other = sym o.lead
          ∙ z in cc;
    }
scalar_opens text v (inr (inr (inr (inr (t, string, is))))) = string_opens text t string
