-- What a number that failed says of the bytes before the fault.
use Rattle.std.proofs.Common.{◌≡◌, ℕ, ℤ, ◌==◌, inr, Bool, true, false, ◌||◌, cond, List, [], ◌∷◌, ◌++◌, length, Ok, Err, refl, sym, ap, subst, ◌∙◌, append_assoc, arith}
use Rattle.std.proofs.lemmas.Bool.{eqb-true, not-true, or_from}
use Rattle.std.proofs.lemmas.Bool.Decides.{nat_tests}
use Rattle.std.proofs.lemmas.List.{append-nil}
use Rattle.std.proofs.lemmas.Str.{IsUtf8-append, IsUtf8-nil}
use Rattle.json_text.specs.declared.fault.Fault.{Fault}
use Rattle.json_text.specs.declared.fault.Fault.TheVariants as fault
use Rattle.json_text.specs.declared.lead.Lead.TheVariants as lead
use Rattle.json_text.specs.Numbers.{is_digit, literal_text, fraction_text, worth}
use Rattle.json_text.specs.Faults.{IsNumeral}
use Rattle.json_text.specs.Reading.{◌>>=◌, unexpected, or_fault, int_at, fraction_at, exponent_at, minus_of, number_at, lead_by, lead_of}
use Rattle.json_text.proofs.Fronts.{cons_utf8, word_utf8}
use Rattle.json_text.proofs.FoundDigits.{int_ok, fraction_ok}
use Rattle.json_text.proofs.FoundNumbers.{minus_is, letter_small, sign_utf8, int_utf8, fraction_utf8, minus_utf8}
use Rattle.json_text.proofs.OnlyNumbers.{letter_no_digit, letter_no_point, fraction_no_digit}
use Rattle.json_text.proofs.Machine.{Due, value, int, digit, point, letter, sign as due_sign, accepts, taken}
use Rattle.json_text.proofs.AcceptsPlain.{IntEnds, fraction_ends, int_run, fraction_run, minus_run}
use Rattle.json_text.proofs.NumberEnds.{literally}
use Rattle.json_text.proofs.Cuts.{left_of, Cause, Counts, Bars, Cut, behind_here, either_failed, ok_no_err, or_fault_err}
use Rattle.json_text.proofs.CutDigits.{bars_digit, exponent_err, fraction_err, int_err}

-- what is due of a value
abbrev pub a_value : ℕ → List Due
a_value r = value r ∷ []

-- ---- a literal whose digits fail

number_first : (b : ℕ) → lead_by b ≡ lead.Number → ((b == 45) || is_digit b) ≡ true
number_first b h = grind (arith, nat_tests)

minus_by : (b : ℕ) (bytes : List ℕ) (f : Fault) (t : Bool) → (b == 45) ≡ t → lead_by b ≡ lead.Number →
    int_at (cond {A = Bool × List ℕ} t (true, bytes) (false, b ∷ bytes)).1 ≡ Err f →
    (b ∷ bytes ≡ 45 ∷ bytes) × (unexpected bytes ≡ f) × ((stack : List Due) → Bars (int ∷ stack) bytes)
minus_by b bytes f true e n h = let p = int_err bytes f h in (ap (λ (x : ℕ). x ∷ bytes) (eqb-true b 45 e), p.0, p.2)
minus_by b bytes f false e n h =
    let p = int_err (b ∷ bytes) f h in
    let d = not-true (is_digit b) p.1 in
    let none = or_from (b == 45) (is_digit b) e d in
    let some = number_first b n in
    absurd cc

-- a minus, and no digit behind it
pub minus_here : (bytes : List ℕ) (f : Fault) → lead_of bytes ≡ lead.Number → int_at (minus_of bytes).1 ≡ Err f →
    (rest : List ℕ) × (bytes ≡ 45 ∷ rest) × (unexpected rest ≡ f) × ((stack : List Due) → Bars (int ∷ stack) rest)
minus_here [] f n h = absurd cc
minus_here (b ∷ bytes) f n h = let p = minus_by b bytes f (b == 45) refl n h in (bytes, p.0, p.1, p.2)

int_cut : (room : ℕ) (bytes : List ℕ) (f : Fault) → lead_of bytes ≡ lead.Number → int_at (minus_of bytes).1 ≡ Err f →
    Cut IsNumeral a_value room bytes f
int_cut room bytes f n h =
    let (rest, spelled, why, bars) = minus_here bytes f n h in
    behind_here IsNumeral a_value room (45 ∷ []) (48 ∷ []) bytes rest f (word_utf8 (45 ∷ []) refl) spelled why (
      record { minus = true; whole = 48 ∷ []; fraction = []; letter = 101; sign = []; exponent = [] },
      record { whole = refl; fraction = refl; letter = refl; sign = refl; exponent = refl },
      refl,
    )
    (λ r le stack others a. taken (value r) 45 (int ∷ point ∷ letter ∷ []) others stack refl
    ∙ bars (point ∷ letter ∷ stack) others a)

fraction_cut : (room : ℕ) (bytes whole rest : List ℕ) (f : Fault) → int_at (minus_of bytes).1 ≡ Ok (whole, rest) →
    fraction_at rest ≡ Err f →
    Cut IsNumeral a_value room bytes f
unfolding IntEnds
fraction_cut room bytes whole rest f i h =
    let m = minus_of bytes in
    let a = cond m.0 (45 ∷ []) [] in
    let int = int_ok m.1 whole rest i in
    let (more, spelled, why, stop) = fraction_err rest f h in
    let before = a ++ (whole ++ 46 ∷ []) in
    behind_here IsNumeral a_value room before (48 ∷ []) bytes more f
    (IsUtf8-append a (whole ++ 46 ∷ []) (minus_utf8 m.0)
    (IsUtf8-append whole (46 ∷ []) (int_utf8 whole int.is) (word_utf8 (46 ∷ []) refl)))
    (minus_is bytes ∙ ap (λ (x : List ℕ). cond m.0 (45 ∷ []) [] ++ x)
    (int.spelled ∙ ap (λ (x : List ℕ). whole ++ x) spelled) ∙ regroup3 (cond m.0 (45 ∷ []) []) whole 46 more)
    why (
      record { minus = m.0; whole = whole; fraction = 48 ∷ []; letter = 101; sign = []; exponent = [] },
      record { whole = int.is; fraction = refl; letter = refl; sign = refl; exponent = refl },
      by (cond m.0 (45 ∷ []) []) whole,
    )
    (λ r le stack others alike.
    ap (λ (x : List ℕ). accepts x (value r ∷ stack)) (sym (regroup3 a whole 46 others))
    ∙ minus_run r m.0 whole (46 ∷ others) stack int.is
    ∙ int_run whole (46 ∷ others) (point ∷ letter ∷ stack) int.is (inr refl)
    ∙ taken point 46 (digit ∷ []) others (letter ∷ stack) refl
    ∙ bars_digit more (letter ∷ stack) stop others alike)
  where
    regroup3 : (a b : List ℕ) (c : ℕ) (d : List ℕ) → a ++ (b ++ c ∷ d) ≡ (a ++ (b ++ c ∷ [])) ++ d
    regroup3 a b c d = simp append_assoc

    by : (a b : List ℕ) → (a ++ (b ++ 46 ∷ [])) ++ (48 ∷ []) ≡ a ++ b ++ (46 ∷ 48 ∷ []) ++ []
    by a b = simp (append_assoc, append-nil)

exponent_cut : (room : ℕ) (bytes whole rest fraction behind : List ℕ) (f : Fault) →
    int_at (minus_of bytes).1 ≡ Ok (whole, rest) →
    fraction_at rest ≡ Ok (fraction, behind) → exponent_at behind ≡ Err f → Cut IsNumeral a_value room bytes f
unfolding IntEnds
exponent_cut room bytes whole rest fraction behind f i j h =
    let m = minus_of bytes in
    let int = int_ok m.1 whole rest i in
    let frac = fraction_ok rest fraction behind j in
    let c = exponent_err behind f h in
    let a = cond m.0 (45 ∷ []) [] in
    let b = fraction_text fraction in
    behind_here IsNumeral a_value room (a ++ (whole ++ (b ++ c.letter ∷ c.sign))) (48 ∷ []) bytes c.rest f
    (IsUtf8-append a (whole ++ (b ++ c.letter ∷ c.sign)) (minus_utf8 m.0)
    (IsUtf8-append whole (b ++ c.letter ∷ c.sign) (int_utf8 whole int.is)
    (IsUtf8-append b (c.letter ∷ c.sign) (fraction_utf8 fraction frac.digits_all)
    (cons_utf8 c.letter c.sign (letter_small c.letter c.is_letter) (sign_utf8 c.sign c.is_sign)))))
    (minus_is bytes ∙ ap (λ (x : List ℕ). cond m.0 (45 ∷ []) [] ++ x)
    (int.spelled ∙ ap (λ (x : List ℕ). whole ++ x)
    (frac.spelled ∙ ap (λ (x : List ℕ). fraction_text fraction ++ x) c.spelled))
    ∙ regroup4 (cond m.0 (45 ∷ []) []) whole (fraction_text fraction) c.letter c.sign c.rest)
    c.fails (
      record { minus = m.0; whole = whole; fraction = fraction; letter = c.letter; sign = c.sign; exponent = 48 ∷ [] },
      record { whole = int.is; fraction = frac.digits_all; letter = c.is_letter; sign = c.is_sign; exponent = refl },
      by (cond m.0 (45 ∷ []) []) whole (fraction_text fraction) c.letter c.sign,
    )
    (λ r le stack others alike.
    let tail = c.letter ∷ (c.sign ++ others) in
    let no_digit = letter_no_digit c.letter c.is_letter in
    ap (λ (x : List ℕ). accepts x (value r ∷ stack)) (sym (regroup4 a whole b c.letter c.sign others))
    ∙ minus_run r m.0 whole (b ++ tail) stack int.is
    ∙ int_run whole (b ++ tail) (point ∷ letter ∷ stack) int.is (inr (fraction_no_digit fraction tail no_digit))
    ∙ fraction_run fraction tail (letter ∷ stack) frac.digits_all
    (fraction_ends fraction tail no_digit (letter_no_point c.letter c.is_letter))
    ∙ taken letter c.letter (due_sign ∷ []) (c.sign ++ others) stack (rw c.is_letter refl)
    ∙ c.stuck stack others alike)
  where
    regroup4 : (a b c : List ℕ) (d : ℕ) (e g : List ℕ) →
        a ++ (b ++ (c ++ d ∷ (e ++ g))) ≡ (a ++ (b ++ (c ++ d ∷ e))) ++ g
    regroup4 a b c d e g = simp append_assoc

    by : (a b c : List ℕ) (d : ℕ) (e : List ℕ) →
        (a ++ (b ++ (c ++ d ∷ e))) ++ (48 ∷ []) ≡ a ++ b ++ c ++ (d ∷ e ++ 48 ∷ [])
    by a b c d e = simp append_assoc

range_cut : (room : ℕ) (bytes whole rest fraction behind : List ℕ) (down : Bool) (exponent last : List ℕ) (f : Fault) →
    int_at (minus_of bytes).1 ≡ Ok (whole, rest) → fraction_at rest ≡ Ok (fraction, behind) →
    exponent_at behind ≡ Ok ((down, exponent), last) →
    fault.Number (length bytes) ≡ f → Cut IsNumeral a_value room bytes f
range_cut room bytes whole rest fraction behind down exponent last f i j k e =
    let n = literally bytes whole rest fraction behind down exponent last i j k in
    let cause : Cause (fault.Number (length bytes)) bytes = tt in
    record {
      front = [];
      rest = bytes;
      others = literal_text n.stays.literal;
      spelled = refl;
      left = ap (λ (g : Fault). left_of g) (sym e);
      is = (n.stays.literal, n.stays.is, refl);
      valid = IsUtf8-nil;
      cause = subst (λ (g : Fault). Cause g bytes) e cause;
      stuck = λ r k stack others a. absurd (subst (λ (g : Fault). Counts g room r) (sym e) k);
    }

pub number_err : (room : ℕ) (bytes : List ℕ) (f : Fault) → lead_of bytes ≡ lead.Number → number_at bytes ≡ Err f →
    Cut IsNumeral a_value room bytes f
unfolding number_at
number_err room bytes f n h =
    let m = minus_of bytes in
    either_failed {B = ℤ × List ℕ} (int_at m.1)
    (λ whole. fraction_at whole.1 >>= λ fraction. exponent_at fraction.1 >>= λ exponent. or_fault
    (fault.Number (length bytes)) (worth m.0 whole.0 fraction.0 exponent.0.0 exponent.0.1) >>= λ n.
    Ok (n, exponent.1)) f (Cut IsNumeral a_value room bytes f)
    (λ e. int_cut room bytes f n e)
    (λ w i g. either_failed {B = ℤ × List ℕ} (fraction_at w.1)
    (λ fraction. exponent_at fraction.1 >>= λ exponent. or_fault (fault.Number (length bytes))
    (worth m.0 w.0 fraction.0 exponent.0.0 exponent.0.1) >>= λ n. Ok (n, exponent.1))
    f (Cut IsNumeral a_value room bytes f)
    (λ e. fraction_cut room bytes w.0 w.1 f i e)
    (λ r j k. either_failed {B = ℤ × List ℕ} (exponent_at r.1)
    (λ exponent. or_fault (fault.Number (length bytes)) (worth m.0 w.0 r.0 exponent.0.0 exponent.0.1) >>= λ n.
    Ok (n, exponent.1)) f (Cut IsNumeral a_value room bytes f)
    (λ e. exponent_cut room bytes w.0 w.1 r.0 r.1 f i j e)
    (λ x l o. either_failed {B = ℤ × List ℕ} (or_fault (fault.Number (length bytes)) (worth m.0 w.0 r.0 x.0.0 x.0.1))
    (λ n. Ok (n, x.1)) f (Cut IsNumeral a_value room bytes f)
    (λ e. let p = or_fault_err (fault.Number (length bytes)) (worth m.0 w.0 r.0 x.0.0 x.0.1) f e in range_cut room bytes
    w.0 w.1 r.0 r.1 x.0.0 x.0.1 x.1 f i j l p.0)
    (λ v e never. absurd (ok_no_err (v, x.1) f never)) o) k) g) h
