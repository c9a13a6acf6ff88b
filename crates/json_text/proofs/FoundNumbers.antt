-- A number that is read is a number of the grammar.
use Rattle.std.proofs.Common.{◌≡◌, ℕ, ℤ, ◌<◌, ◌==◌, Bool, true, false, ◌&&◌, ◌||◌, not, cond, List, [], ◌∷◌, ◌++◌, length, Some, Ok, refl, sym, ap, ◌∙◌, append_assoc, arith}
use Rattle.std.proofs.lemmas.Bool.{eqb-true}
use Rattle.std.proofs.lemmas.Str.{IsUtf8-append, IsUtf8-nil}
use Rattle.std.specs.Prelude.{IsTrue}
use Rattle.std.specs.List.{list_all}
use Rattle.std.specs.Str.{IsUtf8}
use Rattle.json_text.specs.declared.fault.Fault.TheVariants as fault
use Rattle.json_text.specs.Numbers.{is_digit, is_int, is_exponent_letter, is_sign, Literal, IsLiteral, literal_text, fraction_text, exponent_text, worth, IsNumber}
use Rattle.json_text.specs.Reading.{◌>>=◌, or_fault, int_at, fraction_at, exponent_at, minus_of, number_at}
use Rattle.json_text.proofs.Fronts.{bound, ok_pair, or_fault_ok, cons_utf8, all_utf8}
use Rattle.json_text.proofs.FoundDigits.{exponent_ok, fraction_ok, int_ok}

-- a literal's bytes are below 128

digit_small : (b : ℕ) → is_digit b ≡ true → b < 128
digit_small b h = grind arith

pub letter_small : (b : ℕ) → is_exponent_letter b ≡ true → b < 128
letter_small b h = grind arith

sign_small : (b : ℕ) → ((b == 43) || (b == 45)) ≡ true → b < 128
sign_small b h = grind arith

pub sign_utf8 : (sign : List ℕ) → IsTrue (is_sign sign) → IsUtf8 sign
sign_utf8 [] h = IsUtf8-nil
sign_utf8 (b ∷ []) h = cons_utf8 b [] (sign_small b h) IsUtf8-nil
sign_utf8 (b ∷ c ∷ bs) h = absurd cc

pub int_utf8 : (whole : List ℕ) → IsTrue (is_int whole) → IsUtf8 whole
int_utf8 [] h = absurd cc
int_utf8 (b ∷ []) h = cons_utf8 b [] (digit_small b h) IsUtf8-nil
int_utf8 (b ∷ c ∷ bs) h = all_utf8 is_digit (b ∷ c ∷ bs) digit_small (by (not (b == 48)) h)
  where
    by : (t : Bool) → (t && list_all is_digit (b ∷ c ∷ bs)) ≡ true → list_all is_digit (b ∷ c ∷ bs) ≡ true
    by true h = h
    by false h = absurd cc

pub fraction_utf8 : (fraction : List ℕ) → IsTrue (list_all is_digit fraction) → IsUtf8 (fraction_text fraction)
fraction_utf8 [] h = IsUtf8-nil
fraction_utf8 (b ∷ bs) h = cons_utf8 46 (b ∷ bs) (omega arith) (all_utf8 is_digit (b ∷ bs) digit_small h)

exponent_utf8 : (letter : ℕ) (sign exponent : List ℕ) → IsTrue (is_exponent_letter letter) → IsTrue (is_sign sign) →
    IsTrue (list_all is_digit exponent) → IsUtf8 (exponent_text letter sign exponent)
exponent_utf8 letter sign [] l s h = IsUtf8-nil
exponent_utf8 letter sign (b ∷ bs) l s h = cons_utf8 letter (sign ++ b ∷ bs) (letter_small letter l)
    (IsUtf8-append sign (b ∷ bs) (sign_utf8 sign s) (all_utf8 is_digit (b ∷ bs) digit_small h))

pub minus_utf8 : (minus : Bool) → IsUtf8 (cond minus (45 ∷ []) [])
minus_utf8 true = cons_utf8 45 [] (omega arith) IsUtf8-nil
minus_utf8 false = IsUtf8-nil

pub literal_utf8 : (l : Literal) → IsLiteral l → IsUtf8 (literal_text l)
literal_utf8 l h =
    IsUtf8-append (cond l.minus (45 ∷ []) [] ++ l.whole ++ fraction_text l.fraction)
    (exponent_text l.letter l.sign l.exponent)
    (IsUtf8-append (cond l.minus (45 ∷ []) [] ++ l.whole) (fraction_text l.fraction)
    (IsUtf8-append (cond l.minus (45 ∷ []) []) l.whole (minus_utf8 l.minus) (int_utf8 l.whole h.whole))
    (fraction_utf8 l.fraction h.fraction))
    (exponent_utf8 l.letter l.sign l.exponent h.letter h.sign h.exponent)

-- number

pub record Number (bytes : List ℕ) (n : ℤ) (rest : List ℕ) : Type 0 where
  pub text : List ℕ
  pub is : IsNumber text (Some n)
  pub valid : IsUtf8 text
  pub spelled : bytes ≡ text ++ rest

minus_by : (b : ℕ) (bytes : List ℕ) (t : Bool) → (b == 45) ≡ t → b ∷ bytes ≡ cond (minus_of (b ∷ bytes)).0 (45 ∷ [])
    [] ++ (minus_of (b ∷ bytes)).1
minus_by b bytes true e = rw e (ap (λ (x : ℕ). x ∷ bytes) (eqb-true b 45 e))
minus_by b bytes false e = rw e refl

pub minus_is : (bytes : List ℕ) → bytes ≡ cond (minus_of bytes).0 (45 ∷ []) [] ++ (minus_of bytes).1
minus_is [] = refl
minus_is (b ∷ bytes) = minus_by b bytes (b == 45) refl

regroup : (a b c d rest : List ℕ) → a ++ (b ++ (c ++ (d ++ rest))) ≡ a ++ b ++ c ++ d ++ rest
regroup a b c d rest = simp append_assoc

pub number_ok : (bytes : List ℕ) (n : ℤ) (rest : List ℕ) → number_at bytes ≡ Ok (n, rest) → Number bytes n rest
unfolding number_at
number_ok bytes n rest h =
    let m = minus_of bytes in
    let p = bound (int_at m.1) (λ whole. fraction_at whole.1 >>= λ fraction. exponent_at fraction.1 >>= λ exponent.
    or_fault (fault.Number (length bytes)) (worth m.0 whole.0 fraction.0 exponent.0.0 exponent.0.1) >>= λ n.
    Ok (n, exponent.1)) (n, rest) h in
    let w = p.value in
    let q = bound (fraction_at w.1)
    (λ fraction. exponent_at fraction.1 >>= λ exponent. or_fault (fault.Number (length bytes))
    (worth m.0 w.0 fraction.0 exponent.0.0 exponent.0.1) >>= λ n. Ok (n, exponent.1)) (n, rest) p.second in
    let f = q.value in
    let r = bound (exponent_at f.1)
    (λ exponent. or_fault (fault.Number (length bytes)) (worth m.0 w.0 f.0 exponent.0.0 exponent.0.1) >>= λ n.
    Ok (n, exponent.1)) (n, rest) q.second in
    let x = r.value in
    let s = bound (or_fault (fault.Number (length bytes)) (worth m.0 w.0 f.0 x.0.0 x.0.1)) (λ n. Ok (n, x.1))
    (n, rest) r.second in
    let (is_n, is_rest) = ok_pair s.value n x.1 rest s.second in
    let int = int_ok m.1 w.0 w.1 p.first in
    let frac = fraction_ok w.1 f.0 f.1 q.first in
    let exp = exponent_ok f.1 x.0.0 x.0.1 x.1 r.first in
    let l : Literal = record {
      minus = m.0;
      whole = w.0;
      fraction = f.0;
      letter = exp.letter;
      sign = exp.sign;
      exponent = x.0.1;
    } in
    let ok : IsLiteral l = record {
      whole = int.is;
      fraction = frac.digits_all;
      letter = exp.is_letter;
      sign = exp.is_sign;
      exponent = exp.digits_all;
    } in
    let worth_is : worth m.0 w.0 f.0 x.0.0 x.0.1 ≡ Some s.value = or_fault_ok (fault.Number (length bytes))
    (worth m.0 w.0 f.0 x.0.0 x.0.1) s.value s.first in
    record {
      text = literal_text l;
      is = (
        l,
        ok,
        refl,
        ap (λ (k : ℤ). Some k) (sym is_n) ∙ sym worth_is ∙ ap (λ (d : Bool). worth m.0 w.0 f.0 d x.0.1)
            exp.is_down,
      );
      valid = literal_utf8 l ok;
      spelled =
          minus_is bytes
          ∙ ap (λ (y : List ℕ). cond m.0 (45 ∷ []) [] ++ y)
          (int.spelled ∙ ap (λ (y : List ℕ). w.0 ++ y)
          (frac.spelled ∙ ap (λ (y : List ℕ). fraction_text f.0 ++ y)
          (exp.spelled ∙ ap (λ (y : List ℕ). exponent_text exp.letter exp.sign x.0.1 ++ y) is_rest)))
          ∙ regroup (cond m.0 (45 ∷ []) []) w.0 (fraction_text f.0) (exponent_text exp.letter exp.sign x.0.1) rest;
    }
