-- The parts of a number that is read are those of the grammar.
use Rattle.std.proofs.Common.{◌≡◌, ℕ, zero, suc, ◌==◌, Bool, true, false, ◌&&◌, ◌||◌, cond, List, [], ◌∷◌, ◌++◌, take, drop, Ok, Err, refl, sym, ap, subst, ◌∙◌, append_assoc, arith}
use Rattle.std.proofs.lemmas.Bool.{eqb-true, ne_eqb}
use Rattle.std.proofs.lemmas.List.{take-append-drop}
use Rattle.std.specs.Prelude.{IsTrue}
use Rattle.std.specs.List.{prefix_len, list_all}
use Rattle.json_text.specs.Numbers.{is_digit, is_int, is_exponent_letter, is_sign, is_minus, fraction_text, exponent_text}
use Rattle.json_text.specs.Reading.{◌>>=◌, Read, unexpected, digits_at, int_at, fraction_at, exponent_at, sign_of}
use Rattle.json_text.proofs.Prefix.{prefix_passes}
use Rattle.json_text.proofs.Fronts.{bound, ok_pair}

-- a digit, others, and what is behind them
pub record Digits (bytes digits rest : List ℕ) : Type 0 where
  pub first : ℕ
  pub others : List ℕ
  pub are : digits ≡ first ∷ others
  pub digits_all : IsTrue (list_all is_digit digits)
  pub spelled : bytes ≡ digits ++ rest

digits_by : (bytes digits rest : List ℕ) (n : ℕ) → n ≡ prefix_len is_digit bytes →
    ◌≡◌ {A = Read (List ℕ)} (cond (n == 0) (Err (unexpected bytes)) (Ok (take n bytes, drop n bytes)))
    (Ok (digits, rest)) → Digits bytes digits rest
digits_by bytes digits rest zero e h = absurd cc
digits_by [] digits rest (suc n) e h = absurd (omega arith)
digits_by (b ∷ bytes) digits rest (suc n) e h =
    let ne : (suc n == 0) ≡ false = ne_eqb (suc n) 0 (λ z. omega arith) in
    let (made, left) = ok_pair (b ∷ take n bytes) digits (drop n bytes) rest (rw ne at h) in
    record {
      first = b;
      others = take n bytes;
      are = sym made;
      digits_all = prefix_passes is_digit (b ∷ bytes) digits (suc n) e (sym made);
      spelled = sym (take-append-drop (suc n) (b ∷ bytes)) ∙ ap (λ (ds : List ℕ). ds ++ drop n bytes) made
          ∙ ap (λ (r : List ℕ). digits ++ r) left;
    }

pub digits_ok : (bytes digits rest : List ℕ) → digits_at bytes ≡ Ok (digits, rest) → Digits bytes digits rest
unfolding digits_at
digits_ok bytes digits rest h = digits_by bytes digits rest (prefix_len is_digit bytes) refl h

-- int

first_digit : (b : ℕ) (others : List ℕ) → IsTrue (list_all is_digit (b ∷ others)) → is_digit b ≡ true
first_digit b others h = by (is_digit b) refl h
  where
    by : (t : Bool) → is_digit b ≡ t → (t && list_all is_digit others) ≡ true → is_digit b ≡ true
    by true e h = e
    by false e h = absurd cc

int_is : (b : ℕ) (others : List ℕ) → (b == 48) ≡ false → IsTrue (list_all is_digit (b ∷ others)) →
    IsTrue (is_int (b ∷ others))
int_is b [] ne h = first_digit b [] h
int_is b (c ∷ others) ne h = rw ne h

pub record Int (bytes whole rest : List ℕ) : Type 0 where
  pub is : IsTrue (is_int whole)
  pub spelled : bytes ≡ whole ++ rest

zero_digit : (b : ℕ) → (b == 48) ≡ true → is_digit b ≡ true
zero_digit b e = rw (eqb-true b 48 e) refl

int_by : (b : ℕ) (bytes whole rest : List ℕ) (t : Bool) →
    (b == 48) ≡ t → cond t (Ok (b ∷ [], bytes)) (digits_at (b ∷ bytes)) ≡ Ok (whole, rest) →
    Int (b ∷ bytes) whole rest
int_by b bytes whole rest true e h =
    let (w, r) = ok_pair (b ∷ []) whole bytes rest h in
    record {
      is = subst (λ (x : List ℕ). IsTrue (is_int x)) w (zero_digit b e);
      spelled = ap (λ (x : List ℕ). b ∷ x) r
          ∙ ap (λ (x : List ℕ). x ++ rest) w;
    }
int_by b bytes whole rest false e h =
    let d = digits_ok (b ∷ bytes) whole rest h in
    let same : b ∷ bytes ≡ d.first ∷ (d.others ++ rest) = d.spelled ∙ ap (λ (x : List ℕ). x ++ rest) d.are in
    let first : b ≡ d.first = cc in
    let all : IsTrue (list_all is_digit (d.first ∷ d.others)) = subst (λ (x : List ℕ). IsTrue (list_all is_digit x))
    d.are d.digits_all in
    let ne : (d.first == 48) ≡ false = subst (λ (x : ℕ). (x == 48) ≡ false) first e in
    record {
      is = subst (λ (x : List ℕ). IsTrue (is_int x)) (sym d.are) (int_is d.first d.others ne all);
      spelled = d.spelled;
    }

pub int_ok : (bytes whole rest : List ℕ) → int_at bytes ≡ Ok (whole, rest) → Int bytes whole rest
unfolding int_at
int_ok [] whole rest h =
    let d = digits_ok [] whole rest h in
    let same : [] ≡ d.first ∷ (d.others ++ rest) = d.spelled ∙ ap (λ (x : List ℕ). x ++ rest) d.are in
    absurd cc
int_ok (b ∷ bytes) whole rest h = int_by b bytes whole rest (b == 48) refl h

-- frac

pub record Fraction (bytes fraction rest : List ℕ) : Type 0 where
  pub digits_all : IsTrue (list_all is_digit fraction)
  pub spelled : bytes ≡ fraction_text fraction ++ rest

fraction_by : (b : ℕ) (bytes fraction rest : List ℕ) (t : Bool) → (b == 46) ≡ t →
    cond t (digits_at bytes) (Ok ([], b ∷ bytes)) ≡ Ok (fraction, rest) → Fraction (b ∷ bytes) fraction rest
fraction_by b bytes fraction rest true e h =
    let d = digits_ok bytes fraction rest h in
    record {
      digits_all = d.digits_all;
      spelled =
          ap (λ (x : ℕ). x ∷ bytes) (eqb-true b 46 e)
          ∙ ap (λ (x : List ℕ). 46 ∷ x) (d.spelled ∙ ap (λ (x : List ℕ). x ++ rest) d.are)
          ∙ ap (λ (x : List ℕ). fraction_text x ++ rest) (sym d.are);
    }
fraction_by b bytes fraction rest false e h =
    let (f, r) = ok_pair [] fraction (b ∷ bytes) rest h in
    record {
      digits_all = subst (λ (x : List ℕ). IsTrue (list_all is_digit x)) f refl;
      spelled = r
          ∙ ap (λ (x : List ℕ). fraction_text x ++ rest) f;
    }

pub fraction_ok : (bytes fraction rest : List ℕ) → fraction_at bytes ≡ Ok (fraction, rest) →
    Fraction bytes fraction rest
unfolding fraction_at
fraction_ok [] fraction rest h =
    let (f, r) = ok_pair [] fraction [] rest h in
    record {
      digits_all = subst (λ (x : List ℕ). IsTrue (list_all is_digit x)) f refl;
      spelled = r
          ∙ ap (λ (x : List ℕ). fraction_text x ++ rest) f;
    }
fraction_ok (b ∷ bytes) fraction rest h = fraction_by b bytes fraction rest (b == 46) refl h

-- exp

pub record Exponent (bytes : List ℕ) (down : Bool) (exponent rest : List ℕ) : Type 0 where
  pub letter : ℕ
  pub sign : List ℕ
  pub is_letter : IsTrue (is_exponent_letter letter)
  pub is_sign : IsTrue (is_sign sign)
  pub is_down : down ≡ is_minus sign
  pub digits_all : IsTrue (list_all is_digit exponent)
  pub spelled : bytes ≡ exponent_text letter sign exponent ++ rest

pub record Sign (bytes : List ℕ) : Type 0 where
  pub sign : List ℕ
  pub is : IsTrue (is_sign sign)
  pub is_down : (sign_of bytes).0 ≡ is_minus sign
  pub spelled : bytes ≡ sign ++ (sign_of bytes).1

sign_by : (b : ℕ) (bytes : List ℕ) (m p : Bool) → (b == 45) ≡ m → (b == 43) ≡ p → Sign (b ∷ bytes)
sign_by b bytes true p e f = record { sign = b ∷ []; is = rw (e, f) (by p); is_down = rw e refl; spelled = rw e refl }
  where
    by : (p : Bool) → (p || true) ≡ true
    by true = refl
    by false = refl
sign_by b bytes false true e f =
    record { sign = b ∷ []; is = rw (e, f) refl; is_down = rw (e, f) refl; spelled = rw (e, f) refl }
sign_by b bytes false false e f = record { sign = []; is = refl; is_down = rw (e, f) refl; spelled = rw (e, f) refl }

pub sign_is : (bytes : List ℕ) → Sign bytes
sign_is [] = record { sign = []; is = refl; is_down = refl; spelled = refl }
sign_is (b ∷ bytes) = sign_by b bytes (b == 45) (b == 43) refl refl

no_exponent : (bytes : List ℕ) (down : Bool) (exponent rest : List ℕ) → ◌≡◌ {A = Bool × List ℕ} (false, [])
    (down, exponent) → bytes ≡ rest →
    Exponent bytes down exponent rest
no_exponent bytes down exponent rest h r =
    let d : false ≡ down = ap (λ (x : Bool × List ℕ). x.0) h in
    let f : [] ≡ exponent = ap (λ (x : Bool × List ℕ). x.1) h in
    record {
      letter = 101;
      sign = [];
      is_letter = refl;
      is_sign = refl;
      is_down = sym d;
      digits_all = subst (λ (x : List ℕ). IsTrue (list_all is_digit x)) f refl;
      spelled = r ∙ ap (λ (x : List ℕ). exponent_text 101 [] x ++ rest) f;
    }

exponent_by : (b : ℕ) (bytes : List ℕ) (down : Bool) (exponent rest : List ℕ) (t : Bool) → is_exponent_letter b ≡ t →
    ◌≡◌ {A = Read (Bool × List ℕ)} (cond t (digits_at (sign_of bytes).1 >>= λ x. Ok (((sign_of bytes).0, x.0), x.1))
    (Ok ((false, []), b ∷ bytes))) (Ok ((down, exponent), rest)) → Exponent (b ∷ bytes) down exponent rest
exponent_by b bytes down exponent rest true e h =
    let s = sign_is bytes in
    let p = bound (digits_at (sign_of bytes).1) (λ x. Ok (((sign_of bytes).0, x.0), x.1)) ((down, exponent), rest) h in
    let (both, left) = ok_pair {A = Bool × List ℕ} ((sign_of bytes).0, p.value.0) (down, exponent) p.value.1 rest
    p.second in
    let made : (sign_of bytes).0 ≡ down = ap (λ (x : Bool × List ℕ). x.0) both in
    let written : p.value.0 ≡ exponent = ap (λ (x : Bool × List ℕ). x.1) both in
    let first : digits_at (sign_of bytes).1 ≡ Ok (exponent, rest) = p.first ∙ ap (λ (x : List ℕ). Ok (x, p.value.1))
    written ∙ ap (λ (x : List ℕ). Ok (exponent, x)) left in
    let d = digits_ok (sign_of bytes).1 exponent rest first in
    record {
      letter = b;
      sign = s.sign;
      is_letter = e;
      is_sign = s.is;
      is_down = sym made ∙ s.is_down;
      digits_all = d.digits_all;
      spelled =
          ap (λ (x : List ℕ). b ∷ x)
          (s.spelled ∙ ap (λ (x : List ℕ). s.sign ++ x) (d.spelled ∙ ap (λ (x : List ℕ). x ++ rest) d.are)
          ∙ sym (append_assoc s.sign (d.first ∷ d.others) rest))
          ∙ ap (λ (x : List ℕ). exponent_text b s.sign x ++ rest) (sym d.are);
    }
exponent_by b bytes down exponent rest false e h =
    let (made, left) = ok_pair {A = Bool × List ℕ} (false, []) (down, exponent) (b ∷ bytes) rest h in
    no_exponent (b ∷ bytes) down exponent rest made left

pub exponent_ok : (bytes : List ℕ) (down : Bool) (exponent rest : List ℕ) →
    exponent_at bytes ≡ Ok ((down, exponent), rest) →
    Exponent bytes down exponent rest
unfolding exponent_at
exponent_ok [] down exponent rest h =
    let (made, left) = ok_pair {A = Bool × List ℕ} (false, []) (down, exponent) [] rest h in
    no_exponent [] down exponent rest made left
exponent_ok (b ∷ bytes) down exponent rest h = exponent_by b bytes down exponent rest (is_exponent_letter b) refl h
