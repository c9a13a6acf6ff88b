-- What stands before a fault in a number begins a text that is read.
use Rattle.std.proofs.Common.{◌≡◌, ℕ, ℤ, inr, Bool, true, false, cond, List, [], ◌∷◌, ◌++◌, length, Option, None, Ok, Err, refl, sym, ap, subst, ◌∙◌, append_assoc}
use Rattle.std.proofs.lemmas.List.{append-nil}
use Rattle.std.proofs.lemmas.Str.{IsUtf8-nil}
use Rattle.std.specs.Prelude.{IsTrue}
use Rattle.json_text.specs.declared.fault.Fault.{Fault}
use Rattle.json_text.specs.declared.fault.Fault.TheVariants as fault
use Rattle.json_text.specs.declared.lead.Lead.TheVariants as lead
use Rattle.json_text.specs.Numbers.{is_sign, fraction_text, worth}
use Rattle.json_text.specs.Grammar.{null_text}
use Rattle.json_text.specs.Faults.{IsNumeral, IsUnfinished}
use Rattle.json_text.specs.Reading.{◌>>=◌, or_fault, int_at, fraction_at, exponent_at, minus_of, number_at, lead_of}
use Rattle.json_text.proofs.Fronts.{word_utf8}
use Rattle.json_text.proofs.FoundDigits.{int_ok, fraction_ok}
use Rattle.json_text.proofs.FoundNumbers.{minus_is}
use Rattle.json_text.proofs.OnlyNumbers.{letter_no_digit, letter_no_point, fraction_no_digit}
use Rattle.json_text.proofs.Machine.{value, int, digit, point, letter, sign as due_sign, accepts, taken, missing}
use Rattle.json_text.proofs.AcceptsPlain.{IntEnds, fraction_ends, int_run, fraction_run, minus_run}
use Rattle.json_text.proofs.NumberEnds.{Literally, literally, number_here}
use Rattle.json_text.proofs.Cuts.{left_of, either_failed, ok_no_err, or_fault_err}
use Rattle.json_text.proofs.CutNumbers.{minus_here}
use Rattle.json_text.proofs.CutDigits.{fraction_err, exponent_err}
use Rattle.json_text.proofs.Clears.{at_value, Says, Clear, clear_at, part_of_number, Nulls, clear_value}

int_clear : (Is : List ℕ → Type 0) (bytes : List ℕ) (f : Fault) → Nulls Is → lead_of bytes ≡ lead.Number →
    int_at (minus_of bytes).1 ≡ Err f →
    Clear Is bytes f
int_clear Is bytes f nulls n h =
    let (rest, spelled, why, bars) = minus_here bytes f n h in
    clear_at Is [] (45 ∷ []) rest null_text bytes f IsUtf8-nil (word_utf8 null_text refl) spelled why unfinished
    (nulls 32 refl)
  where
    zero_text : IsNumeral (45 ∷ 48 ∷ [])
    zero_text = (
      record { minus = true; whole = 48 ∷ []; fraction = []; letter = 101; sign = []; exponent = [] },
      record { whole = refl; fraction = refl; letter = refl; sign = refl; exponent = refl },
      refl,
    )

    unfinished : IsUnfinished (45 ∷ [])
    unfinished = part_of_number (45 ∷ []) (48 ∷ []) zero_text (taken (value 0) 45 (int ∷ point ∷ letter ∷ []) [] [] refl
        ∙ missing int (point ∷ letter ∷ []) refl)

fraction_clear : (Is : List ℕ → Type 0) (bytes whole rest : List ℕ) (f : Fault) → Nulls Is →
    int_at (minus_of bytes).1 ≡ Ok (whole, rest) →
    fraction_at rest ≡ Err f → Clear Is bytes f
unfolding IntEnds
fraction_clear Is bytes whole rest f nulls i h =
    let m = minus_of bytes in
    let a = cond m.0 (45 ∷ []) [] in
    let int = int_ok m.1 whole rest i in
    let (more, spelled, why, stop) = fraction_err rest f h in
    let is : IsNumeral ((a ++ (whole ++ 46 ∷ [])) ++ 48 ∷ []) = (
      record
          { minus = m.0; whole = whole; fraction = 48 ∷ []; letter = 101; sign = []; exponent = [] },
      record { whole = int.is; fraction = refl; letter = refl; sign = refl; exponent = refl },
      by a whole,
    ) in
    clear_at Is [] (a ++ (whole ++ 46 ∷ [])) more null_text bytes f IsUtf8-nil (word_utf8 null_text refl)
    (minus_is bytes ∙ ap (λ (x : List ℕ). cond m.0 (45 ∷ []) [] ++ x)
    (int.spelled ∙ ap (λ (x : List ℕ). whole ++ x) spelled) ∙ regroup3 a whole 46 more)
    why
    (part_of_number (a ++ (whole ++ 46 ∷ [])) (48 ∷ []) is
    (minus_run 0 m.0 whole (46 ∷ []) [] int.is ∙ int_run whole (46 ∷ []) (point ∷ letter ∷ []) int.is (inr refl)
    ∙ taken point 46 (digit ∷ []) [] (letter ∷ []) refl ∙ missing digit (letter ∷ []) refl))
    (nulls 32 refl)
  where
    regroup3 : (a b : List ℕ) (c : ℕ) (d : List ℕ) → a ++ (b ++ c ∷ d) ≡ (a ++ (b ++ c ∷ [])) ++ d
    regroup3 a b c d = simp append_assoc

    by : (a b : List ℕ) → (a ++ (b ++ 46 ∷ [])) ++ (48 ∷ []) ≡ a ++ b ++ (46 ∷ 48 ∷ []) ++ []
    by a b = simp (append_assoc, append-nil)

-- digits are missing behind a sign, or behind none
sign_missing : (sign : List ℕ) → IsTrue (is_sign sign) → accepts sign (due_sign ∷ []) ≡ false
sign_missing [] h = missing due_sign [] refl
sign_missing (b ∷ []) h = taken due_sign b (digit ∷ []) [] [] (rw h refl) ∙ missing digit [] refl
sign_missing (b ∷ c ∷ bs) h = absurd cc

exponent_clear : (Is : List ℕ → Type 0) (bytes whole rest fraction behind : List ℕ) (f : Fault) → Nulls Is →
    int_at (minus_of bytes).1 ≡ Ok (whole, rest) → fraction_at rest ≡ Ok (fraction, behind) →
    exponent_at behind ≡ Err f → Clear Is bytes f
unfolding IntEnds
exponent_clear Is bytes whole rest fraction behind f nulls i j h =
    let m = minus_of bytes in
    let int = int_ok m.1 whole rest i in
    let frac = fraction_ok rest fraction behind j in
    let c = exponent_err behind f h in
    let a = cond m.0 (45 ∷ []) [] in
    let b = fraction_text fraction in
    let t = c.letter ∷ c.sign in
    let no_digit = letter_no_digit c.letter c.is_letter in
    let is : IsNumeral ((a ++ (whole ++ (b ++ t))) ++ 48 ∷ []) = (
      record { minus = m.0; whole = whole; fraction = fraction; letter = c.letter; sign = c.sign; exponent = 48 ∷ [] },
      record { whole = int.is; fraction = frac.digits_all; letter = c.is_letter; sign = c.is_sign; exponent = refl },
      by a whole b c.letter c.sign,
    ) in
    clear_at Is [] (a ++ (whole ++ (b ++ t))) c.rest null_text bytes f IsUtf8-nil (word_utf8 null_text refl)
    (minus_is bytes ∙ ap (λ (x : List ℕ). cond m.0 (45 ∷ []) [] ++ x)
    (int.spelled ∙ ap (λ (x : List ℕ). whole ++ x)
    (frac.spelled ∙ ap (λ (x : List ℕ). fraction_text fraction ++ x) c.spelled))
    ∙ regroup4 a whole b c.letter c.sign c.rest)
    c.fails
    (part_of_number (a ++ (whole ++ (b ++ t))) (48 ∷ []) is
    (minus_run 0 m.0 whole (b ++ t) [] int.is
    ∙ int_run whole (b ++ t) (point ∷ letter ∷ []) int.is (inr (fraction_no_digit fraction t no_digit))
    ∙ fraction_run fraction t (letter ∷ []) frac.digits_all
    (fraction_ends fraction t no_digit (letter_no_point c.letter c.is_letter))
    ∙ taken letter c.letter (due_sign ∷ []) c.sign [] (rw c.is_letter refl)
    ∙ sign_missing c.sign c.is_sign))
    (nulls 32 refl)
  where
    regroup4 : (a b c : List ℕ) (d : ℕ) (e g : List ℕ) →
        a ++ (b ++ (c ++ d ∷ (e ++ g))) ≡ (a ++ (b ++ (c ++ d ∷ e))) ++ g
    regroup4 a b c d e g = simp append_assoc

    by : (a b c : List ℕ) (d : ℕ) (e : List ℕ) →
        (a ++ (b ++ (c ++ d ∷ e))) ++ (48 ∷ []) ≡ a ++ b ++ c ++ (d ∷ e ++ 48 ∷ [])
    by a b c d e = simp append_assoc

range_clear : (Is : List ℕ → Type 0) (bytes whole rest fraction behind : List ℕ) (down : Bool) (exponent last : List ℕ)
    (f : Fault) → Nulls Is →
    int_at (minus_of bytes).1 ≡ Ok (whole, rest) → fraction_at rest ≡ Ok (fraction, behind) →
    exponent_at behind ≡ Ok ((down, exponent), last) →
    worth (minus_of bytes).0 whole fraction down exponent ≡ None → fault.Number (length bytes) ≡ f → Clear Is bytes f
range_clear Is bytes whole rest fraction behind down exponent last f nulls i j k w e =
    let n = literally bytes whole rest fraction behind down exponent last i j k in
    let here = number_here bytes last (subst (λ (o : Option ℤ). Literally bytes o last) w n) in
    let says : Says (fault.Number (length bytes)) at_value bytes = (refl, here) in
    clear_value Is bytes f nulls (ap (λ (g : Fault). left_of g) (sym e))
    (subst (λ (g : Fault). Says g at_value bytes) e says)

pub number_clear : (Is : List ℕ → Type 0) (bytes : List ℕ) (f : Fault) → Nulls Is → lead_of bytes ≡ lead.Number →
    number_at bytes ≡ Err f →
    Clear Is bytes f
unfolding number_at
number_clear Is bytes f nulls n h =
    let m = minus_of bytes in
    either_failed {B = ℤ × List ℕ} (int_at m.1)
    (λ whole. fraction_at whole.1 >>= λ fraction. exponent_at fraction.1 >>= λ exponent. or_fault
    (fault.Number (length bytes)) (worth m.0 whole.0 fraction.0 exponent.0.0 exponent.0.1) >>= λ n.
    Ok (n, exponent.1)) f (Clear Is bytes f)
    (λ e. int_clear Is bytes f nulls n e)
    (λ w i g. either_failed {B = ℤ × List ℕ} (fraction_at w.1)
    (λ fraction. exponent_at fraction.1 >>= λ exponent. or_fault (fault.Number (length bytes))
    (worth m.0 w.0 fraction.0 exponent.0.0 exponent.0.1) >>= λ n. Ok (n, exponent.1)) f (Clear Is bytes f)
    (λ e. fraction_clear Is bytes w.0 w.1 f nulls i e)
    (λ r j k. either_failed {B = ℤ × List ℕ} (exponent_at r.1)
    (λ exponent. or_fault (fault.Number (length bytes)) (worth m.0 w.0 r.0 exponent.0.0 exponent.0.1) >>= λ n.
    Ok (n, exponent.1)) f (Clear Is bytes f)
    (λ e. exponent_clear Is bytes w.0 w.1 r.0 r.1 f nulls i j e)
    (λ x l o. either_failed {B = ℤ × List ℕ} (or_fault (fault.Number (length bytes)) (worth m.0 w.0 r.0 x.0.0 x.0.1))
    (λ n. Ok (n, x.1)) f (Clear Is bytes f)
    (λ e. let p = or_fault_err (fault.Number (length bytes)) (worth m.0 w.0 r.0 x.0.0 x.0.1) f e in range_clear Is bytes
    w.0 w.1 r.0 r.1 x.0.0 x.0.1 x.1 f nulls i j l p.1 p.0)
    (λ v e never. absurd (ok_no_err (v, x.1) f never)) o) k) g) h
