-- Where the digits of a number fail, and what the machine refuses there.
use Rattle.std.proofs.Common.{◌≡◌, ℕ, ◌==◌, ◌⊎◌, inl, inr, Bool, true, false, ◌||◌, cond, List, [], ◌∷◌, ◌++◌, take, drop, Ok, Err, refl, sym, ap, subst, ◌∙◌}
use Rattle.std.proofs.lemmas.Bool.{eqb-true, not-true, not_from_false, or_from}
use Rattle.std.proofs.lemmas.Str.{IsUtf8-nil}
use Rattle.std.specs.Prelude.{IsTrue}
use Rattle.std.specs.List.{prefix_len}
use Rattle.std.specs.Str.{IsUtf8}
use Rattle.json_text.specs.declared.fault.Fault.{Fault}
use Rattle.json_text.specs.Numbers.{is_digit, is_exponent_letter, is_sign}
use Rattle.json_text.specs.Reading.{◌>>=◌, Read, unexpected, digits_at, int_at, fraction_at, exponent_at, sign_of}
use Rattle.json_text.proofs.FoundNumbers.{sign_utf8}
use Rattle.json_text.proofs.Spelled.{stops}
use Rattle.json_text.proofs.Sequences.{prefix_stops}
use Rattle.json_text.proofs.Machine.{Due, int, digit, sign as due_sign, refuses, react, taken}
use Rattle.json_text.proofs.Cuts.{Stuck, Bars, bars_end, bars_byte, failed, err_same}

digits_err_by : (bytes : List ℕ) (n : ℕ) (f : Fault) (t : Bool) → (n == 0) ≡ t →
    ◌≡◌ {A = Read (List ℕ)} (cond t (Err (unexpected bytes)) (Ok (take n bytes, drop n bytes))) (Err f) →
    (unexpected bytes ≡ f) × (n ≡ 0)
digits_err_by bytes n f true e h = (err_same {A = List ℕ × List ℕ} (unexpected bytes) f h, eqb-true n 0 e)
digits_err_by bytes n f false e h = absurd cc

no_digits : (bytes : List ℕ) → prefix_len is_digit bytes ≡ 0 → stops is_digit bytes ≡ true
no_digits bytes e = subst (λ (n : ℕ). stops is_digit (drop n bytes) ≡ true) e (prefix_stops is_digit bytes)

digits_err : (bytes : List ℕ) (f : Fault) → digits_at bytes ≡ Err f →
    (unexpected bytes ≡ f) × (stops is_digit bytes ≡ true)
unfolding digits_at
digits_err bytes f h =
    let p = digits_err_by bytes (prefix_len is_digit bytes) f (prefix_len is_digit bytes == 0) refl h in
    (p.0, no_digits bytes p.1)

pub bars_digit : (bytes : List ℕ) (stack : List Due) → stops is_digit bytes ≡ true → Bars (digit ∷ stack) bytes
bars_digit [] stack s = bars_end digit stack refl
bars_digit (b ∷ bytes) stack s = bars_byte digit b bytes stack (rw (not-true (is_digit b) s) refl)

int_refuses : (b : ℕ) → (b == 48) ≡ false → is_digit b ≡ false → react int b ≡ refuses
int_refuses b z d = rw (z, d) refl

int_by : (b : ℕ) (bytes : List ℕ) (f : Fault) (t : Bool) → (b == 48) ≡ t →
    ◌≡◌ {A = Read (List ℕ)} (cond t (Ok (b ∷ [], bytes)) (digits_at (b ∷ bytes))) (Err f) →
    (unexpected (b ∷ bytes) ≡ f) × (is_digit b ≡ false) × (react int b ≡ refuses)
int_by b bytes f true e h = absurd cc
int_by b bytes f false e h = let p = digits_err (b ∷ bytes) f h in let d = not-true (is_digit b) p.1 in
    (p.0, d, int_refuses b e d)

fraction_by : (b : ℕ) (bytes : List ℕ) (f : Fault) (t : Bool) → (b == 46) ≡ t →
    ◌≡◌ {A = Read (List ℕ)} (cond t (digits_at bytes) (Ok ([], b ∷ bytes))) (Err f) →
    (rest : List ℕ) × (b ∷ bytes ≡ 46 ∷ rest) × (unexpected rest ≡ f) × (stops is_digit rest ≡ true)
fraction_by b bytes f true e h = let p = digits_err bytes f h in
    (bytes, ap (λ (x : ℕ). x ∷ bytes) (eqb-true b 46 e), p.0, p.1)
fraction_by b bytes f false e h = absurd cc

pub fraction_err : (bytes : List ℕ) (f : Fault) → fraction_at bytes ≡ Err f →
    (rest : List ℕ) × (bytes ≡ 46 ∷ rest) × (unexpected rest ≡ f) × (stops is_digit rest ≡ true)
unfolding fraction_at
fraction_err [] f h = absurd cc
fraction_err (b ∷ bytes) f h = fraction_by b bytes f (b == 46) refl h

pub int_err : (bytes : List ℕ) (f : Fault) → int_at bytes ≡ Err f →
    (unexpected bytes ≡ f) × (stops is_digit bytes ≡ true) × ((stack : List Due) → Bars (int ∷ stack) bytes)
unfolding int_at
int_err [] f h = ((digits_err [] f h).0, refl, λ stack. bars_end int stack refl)
int_err (b ∷ bytes) f h =
    let p = int_by b bytes f (b == 48) refl h in
    (p.0, not_from_false (is_digit b) p.1, λ stack. bars_byte int b bytes stack p.2)

-- a sign, or none, and no digit behind it
pub record SignCut (bytes : List ℕ) : Type 0 where
  pub sign : List ℕ
  pub is : IsTrue (is_sign sign)
  pub spelled : bytes ≡ sign ++ (sign_of bytes).1
  pub valid : IsUtf8 sign
  pub stuck : (stack : List Due) → Stuck (due_sign ∷ stack) sign (sign_of bytes).1

one_sign : (b : ℕ) (bytes : List ℕ) (stack : List Due) → ((b == 43) || (b == 45)) ≡ true → stops is_digit bytes ≡ true →
    Stuck (due_sign ∷ stack) (b ∷ []) bytes
one_sign b bytes stack h s others a = taken due_sign b (digit ∷ []) others stack (rw h refl)
    ∙ bars_digit bytes stack s others a

with_sign : (b : ℕ) (bytes : List ℕ) (minus : Bool) → sign_of (b ∷ bytes) ≡ (minus, bytes) →
    ((b == 43) || (b == 45)) ≡ true →
    stops is_digit (sign_of (b ∷ bytes)).1 ≡ true → SignCut (b ∷ bytes)
with_sign b bytes minus same h s =
    let rest : (sign_of (b ∷ bytes)).1 ≡ bytes = ap (λ (x : Bool × List ℕ). x.1) same in
    let stop : stops is_digit bytes ≡ true = subst (λ (x : List ℕ). stops is_digit x ≡ true) rest s in
    record {
      sign = b ∷ [];
      is = h;
      spelled = ap (λ (x : List ℕ). b ∷ x) (sym rest);
      valid = sign_utf8 (b ∷ []) h;
      stuck = subst (λ (x : List ℕ). (stack : List Due) → Stuck (due_sign ∷ stack) (b ∷ []) x) (sym rest)
          (λ stack. one_sign b bytes stack h stop);
    }

or_right : (x y : Bool) → y ≡ true → (x || y) ≡ true
or_right true y h = refl
or_right false y h = h

or_left : (x y : Bool) → x ≡ true → (x || y) ≡ true
or_left x y h = rw h refl

neither : (b : ℕ) → ((b == 43) || (b == 45)) ≡ false → is_digit b ≡ false → react due_sign b ≡ refuses
neither b n d = rw (n, d) refl

sign_by : (b : ℕ) (bytes : List ℕ) (m p : Bool) → (b == 45) ≡ m →
    (b == 43) ≡ p → stops is_digit (sign_of (b ∷ bytes)).1 ≡ true → SignCut (b ∷ bytes)
sign_by b bytes true p e g s = with_sign b bytes true (rw e refl) (or_right (b == 43) (b == 45) e) s
sign_by b bytes false true e g s = with_sign b bytes false (rw (e, g) refl) (or_left (b == 43) (b == 45) g) s
sign_by b bytes false false e g s =
    let same : sign_of (b ∷ bytes) ≡ (false, b ∷ bytes) = rw (e, g) refl in
    let rest : (sign_of (b ∷ bytes)).1 ≡ b ∷ bytes = ap (λ (x : Bool × List ℕ). x.1) same in
    let stop : stops is_digit (b ∷ bytes) ≡ true = subst (λ (x : List ℕ). stops is_digit x ≡ true) rest s in
    let refusal = neither b (or_from (b == 43) (b == 45) g e) (not-true (is_digit b) stop) in
    record {
      sign = [];
      is = refl;
      spelled = sym rest;
      valid = IsUtf8-nil;
      stuck = subst (λ (x : List ℕ). (stack : List Due) → Stuck (due_sign ∷ stack) [] x) (sym rest)
          (λ stack. bars_byte due_sign b bytes stack refusal);
    }

sign_cut : (bytes : List ℕ) → stops is_digit (sign_of bytes).1 ≡ true → SignCut bytes
sign_cut [] s = record {
  sign = [];
  is = refl;
  spelled = refl;
  valid = IsUtf8-nil;
  stuck = λ stack. bars_end due_sign
      stack refl;
}
sign_cut (b ∷ bytes) s = sign_by b bytes (b == 45) (b == 43) refl refl s

pub record ExponentCut (bytes : List ℕ) (f : Fault) : Type 0 where
  pub letter : ℕ
  pub sign : List ℕ
  pub rest : List ℕ
  pub is_letter : IsTrue (is_exponent_letter letter)
  pub is_sign : IsTrue (is_sign sign)
  pub spelled : bytes ≡ letter ∷ (sign ++ rest)
  pub fails : unexpected rest ≡ f
  pub stuck : (stack : List Due) → Stuck (due_sign ∷ stack) sign rest

exponent_by : (b : ℕ) (bytes : List ℕ) (f : Fault) (t : Bool) → is_exponent_letter b ≡ t →
    ◌≡◌ {A = Read (Bool × List ℕ)} (cond t (digits_at (sign_of bytes).1 >>= λ x. Ok (((sign_of bytes).0, x.0), x.1))
    (Ok ((false, []), b ∷ bytes))) (Err f) → ExponentCut (b ∷ bytes) f
exponent_by b bytes f true e h =
    by (failed {B = (Bool × List ℕ) × List ℕ} (digits_at (sign_of bytes).1) (λ x. Ok (((sign_of bytes).0, x.0), x.1)) f
    h)
  where
    by : ((digits_at (sign_of bytes).1 ≡ Err f) ⊎ ((x : List ℕ × List ℕ) × (digits_at (sign_of bytes).1 ≡ Ok x) × (◌≡◌
        {A = Read (Bool × List ℕ)} (Ok (((sign_of bytes).0, x.0), x.1)) (Err f)))) →
        ExponentCut (b ∷ bytes) f
    by (inl g) =
        let d = digits_err (sign_of bytes).1 f g in
        let c = sign_cut bytes d.1 in
        record {
          letter = b;
          sign = c.sign;
          rest = (sign_of bytes).1;
          is_letter = e;
          is_sign = c.is;
          spelled = ap
              (λ (x : List ℕ). b ∷ x) c.spelled;
          fails = d.0;
          stuck = c.stuck;
        }
    by (inr (x, g, never)) = absurd cc
exponent_by b bytes f false e h = absurd cc

pub exponent_err : (bytes : List ℕ) (f : Fault) → exponent_at bytes ≡ Err f → ExponentCut bytes f
unfolding exponent_at
exponent_err [] f h = absurd cc
exponent_err (b ∷ bytes) f h = exponent_by b bytes f (is_exponent_letter b) refl h
