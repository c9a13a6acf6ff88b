-- What stands behind a number that is read.
use Rattle.std.proofs.Common.{◌≡◌, ℕ, ℤ, ◌==◌, inl, inr, Bool, true, false, cond, List, [], ◌∷◌, ◌++◌, length, take, drop, Option, None, Ok, Err, refl, sym, ap, subst, ◌∙◌, append_assoc}
use Rattle.std.proofs.lemmas.Bool.{eqb-true, not_from_false}
use Rattle.std.proofs.lemmas.List.{append-nil}
use Rattle.std.specs.List.{prefix_len}
use Rattle.json_text.specs.declared.fault.Fault.{Fault}
use Rattle.json_text.specs.declared.fault.Fault.TheVariants as fault
use Rattle.json_text.specs.Numbers.{is_digit, is_exponent_letter, is_minus, Literal, IsLiteral, literal_text, fraction_text, exponent_text, worth}
use Rattle.json_text.specs.Faults.{IsWhole, NumberHere}
use Rattle.json_text.specs.Reading.{◌>>=◌, Read, unexpected, or_fault, digits_at, int_at, fraction_at, exponent_at, sign_of, minus_of, number_at}
use Rattle.json_text.proofs.Fronts.{bound, ok_pair}
use Rattle.json_text.proofs.FoundDigits.{digits_ok, int_ok, fraction_ok, exponent_ok}
use Rattle.json_text.proofs.FoundNumbers.{minus_is}
use Rattle.json_text.proofs.Spelled.{stops}
use Rattle.json_text.proofs.Sequences.{prefix_stops}
use Rattle.json_text.proofs.AcceptsPlain.{IntEnds, FractionEnds, ExponentEnds, LiteralEnds, literal_run}
use Rattle.json_text.proofs.AcceptsScalars.{numeral_run}
use Rattle.json_text.proofs.Machine.{value, accepts, too_long, nothing_due}
use Rattle.json_text.proofs.Cuts.{Alike, alike_behind, alike_stops}

digits_stop_by : (bytes ds rest : List ℕ) (f : Fault) (t : Bool) →
    ◌≡◌ {A = Read (List ℕ)} (cond t (Err f)
    (Ok (take (prefix_len is_digit bytes) bytes, drop (prefix_len is_digit bytes) bytes))) (Ok (ds, rest)) →
    stops is_digit rest ≡ true
digits_stop_by bytes ds rest f true h = absurd cc
digits_stop_by bytes ds rest f false h =
    let (made, left) = ok_pair (take (prefix_len is_digit bytes) bytes) ds (drop (prefix_len is_digit bytes) bytes) rest
    h in
    subst (λ (x : List ℕ). stops is_digit x ≡ true) left (prefix_stops is_digit bytes)

digits_stop : (bytes ds rest : List ℕ) → digits_at bytes ≡ Ok (ds, rest) → stops is_digit rest ≡ true
unfolding digits_at
digits_stop bytes ds rest h = digits_stop_by bytes ds rest (unexpected bytes) (prefix_len is_digit bytes == 0) h

int_ends_by : (b : ℕ) (bytes whole rest : List ℕ) (t : Bool) → (b == 48) ≡ t →
    cond t (Ok (b ∷ [], bytes)) (digits_at (b ∷ bytes)) ≡ Ok (whole, rest) → IntEnds whole rest
unfolding IntEnds
int_ends_by b bytes whole rest true e h = let (w, r) = ok_pair (b ∷ []) whole bytes rest h in
    inl (sym w ∙ ap (λ (x : ℕ). x ∷ []) (eqb-true b 48 e))
int_ends_by b bytes whole rest false e h = inr (digits_stop (b ∷ bytes) whole rest h)

int_ends : (bytes whole rest : List ℕ) → int_at bytes ≡ Ok (whole, rest) → IntEnds whole rest
unfolding int_at IntEnds
int_ends [] whole rest h = inr (digits_stop [] whole rest h)
int_ends (b ∷ bytes) whole rest h = int_ends_by b bytes whole rest (b == 48) refl h

fraction_ends_by : (b : ℕ) (bytes fraction rest : List ℕ) (t : Bool) → (b == 46) ≡ t →
    cond t (digits_at bytes) (Ok ([], b ∷ bytes)) ≡ Ok (fraction, rest) → FractionEnds fraction rest
unfolding FractionEnds
fraction_ends_by b bytes fraction rest true e h =
    let d = digits_ok bytes fraction rest h in
    let some : FractionEnds (d.first ∷ d.others) rest = digits_stop bytes fraction rest h in
    subst (λ (x : List ℕ). FractionEnds x rest) (sym d.are) some
fraction_ends_by b bytes fraction rest false e h =
    let (f, r) = ok_pair [] fraction (b ∷ bytes) rest h in
    let none : FractionEnds [] (b ∷ bytes) = not_from_false (b == 46) e in
    subst (λ (x : List ℕ). FractionEnds x rest) f (subst (λ (x : List ℕ). FractionEnds [] x) r none)

fraction_ends_ok : (bytes fraction rest : List ℕ) → fraction_at bytes ≡ Ok (fraction, rest) → FractionEnds fraction rest
unfolding fraction_at FractionEnds
fraction_ends_ok [] fraction rest h =
    let (f, r) = ok_pair [] fraction [] rest h in
    let none : FractionEnds [] [] = refl in
    subst (λ (x : List ℕ). FractionEnds x rest) f (subst (λ (x : List ℕ). FractionEnds [] x) r none)
fraction_ends_ok (b ∷ bytes) fraction rest h = fraction_ends_by b bytes fraction rest (b == 46) refl h

no_exponent_ends : (bytes : List ℕ) (down : Bool) (exponent rest : List ℕ) →
    ◌≡◌ {A = Read (Bool × List ℕ)} (Ok ((false, []), bytes)) (Ok ((down, exponent), rest)) →
    stops is_exponent_letter bytes ≡ true →
    ExponentEnds exponent rest
unfolding ExponentEnds
no_exponent_ends bytes down exponent rest h s =
    let (made, left) = ok_pair {A = Bool × List ℕ} (false, []) (down, exponent) bytes rest h in
    let none : ExponentEnds [] bytes = s in
    subst (λ (x : List ℕ). ExponentEnds x rest) (ap (λ (x : Bool × List ℕ). x.1) made)
    (subst (λ (x : List ℕ). ExponentEnds [] x) left none)

exponent_ends_by : (b : ℕ) (bytes : List ℕ) (down : Bool) (exponent rest : List ℕ) (t : Bool) →
    is_exponent_letter b ≡ t →
    ◌≡◌ {A = Read (Bool × List ℕ)} (cond t (digits_at (sign_of bytes).1 >>= λ x. Ok (((sign_of bytes).0, x.0), x.1))
    (Ok ((false, []), b ∷ bytes))) (Ok ((down, exponent), rest)) → ExponentEnds exponent rest
unfolding ExponentEnds
exponent_ends_by b bytes down exponent rest true e h =
    let p = bound (digits_at (sign_of bytes).1) (λ x. Ok (((sign_of bytes).0, x.0), x.1)) ((down, exponent), rest) h in
    let (both, left) = ok_pair {A = Bool × List ℕ} ((sign_of bytes).0, p.value.0) (down, exponent) p.value.1 rest
    p.second in
    let d = digits_ok (sign_of bytes).1 p.value.0 p.value.1 p.first in
    let some : ExponentEnds (d.first ∷ d.others) p.value.1 = digits_stop (sign_of bytes).1 p.value.0 p.value.1
    p.first in
    subst (λ (x : List ℕ). ExponentEnds x rest) (sym d.are ∙ ap (λ (x : Bool × List ℕ). x.1) both)
    (subst (λ (x : List ℕ). ExponentEnds (d.first ∷ d.others) x) left some)
exponent_ends_by b bytes down exponent rest false e h =
    no_exponent_ends (b ∷ bytes) down exponent rest h (not_from_false (is_exponent_letter b) e)

exponent_ends_ok : (bytes : List ℕ) (down : Bool) (exponent rest : List ℕ) →
    exponent_at bytes ≡ Ok ((down, exponent), rest) →
    ExponentEnds exponent rest
unfolding exponent_at
exponent_ends_ok [] down exponent rest h = no_exponent_ends [] down exponent rest h refl
exponent_ends_ok (b ∷ bytes) down exponent rest h = exponent_ends_by b bytes down exponent rest (is_exponent_letter b)
    refl h

int_alike : (whole rest others : List ℕ) → Alike rest others → IntEnds whole rest → IntEnds whole others
unfolding IntEnds
int_alike whole rest others a (inl e) = inl e
int_alike whole rest others a (inr s) = inr (alike_stops is_digit rest others a s)

fraction_alike : (fraction rest others : List ℕ) → Alike rest others → FractionEnds fraction rest →
    FractionEnds fraction others
unfolding FractionEnds
fraction_alike [] rest others a e = alike_stops (λ b. b == 46) rest others a e
fraction_alike (b ∷ bs) rest others a e = alike_stops is_digit rest others a e

exponent_alike : (exponent rest others : List ℕ) → Alike rest others → ExponentEnds exponent rest →
    ExponentEnds exponent others
unfolding ExponentEnds
exponent_alike [] rest others a e = alike_stops is_exponent_letter rest others a e
exponent_alike (b ∷ bs) rest others a e = alike_stops is_digit rest others a e

-- a literal and what stands behind it, which doesn't go on with it
pub record Stays (bytes rest : List ℕ) : Type 0 where
  pub literal : Literal
  pub is : IsLiteral literal
  pub spelled : bytes ≡ literal_text literal ++ rest
  pub ends : (others : List ℕ) → Alike rest others → LiteralEnds literal others

regroup : (a b c d rest : List ℕ) → a ++ (b ++ (c ++ (d ++ rest))) ≡ a ++ b ++ c ++ d ++ rest
regroup a b c d rest = simp append_assoc

-- a whole literal that is read, and what it is worth
pub record Literally (bytes : List ℕ) (n : Option ℤ) (rest : List ℕ) : Type 0 where
  pub stays : Stays bytes rest
  pub worth_is : n ≡ worth stays.literal.minus stays.literal.whole stays.literal.fraction (is_minus stays.literal.sign)
      stays.literal.exponent

pub literally : (bytes whole rest fraction behind : List ℕ) (down : Bool) (exponent last : List ℕ) →
    int_at (minus_of bytes).1 ≡ Ok (whole, rest) →
    fraction_at rest ≡ Ok (fraction, behind) → exponent_at behind ≡ Ok ((down, exponent), last) →
    Literally bytes (worth (minus_of bytes).0 whole fraction down exponent) last
literally bytes whole rest fraction behind down exponent last i j k =
    let m = minus_of bytes in
    let int = int_ok m.1 whole rest i in
    let frac = fraction_ok rest fraction behind j in
    let exp = exponent_ok behind down exponent last k in
    let l : Literal = record {
      minus = m.0;
      whole = whole;
      fraction = fraction;
      letter = exp.letter;
      sign = exp.sign;
      exponent = exponent;
    } in
    let e = exponent_text exp.letter exp.sign exponent in
    let t = fraction_text fraction in
    let ok : IsLiteral l = record {
      whole = int.is;
      fraction = frac.digits_all;
      letter = exp.is_letter;
      sign = exp.is_sign;
      exponent = exp.digits_all;
    } in
    let after : rest ≡ t ++ (e ++ last) = frac.spelled ∙ ap (λ (y : List ℕ). fraction_text fraction ++ y) exp.spelled in
    let st : Stays bytes last = record {
      literal = l;
      is = ok;
      spelled =
          minus_is bytes ∙ ap (λ (y : List ℕ). cond m.0 (45 ∷ []) [] ++ y)
          (int.spelled ∙ ap (λ (y : List ℕ). whole ++ y) after)
          ∙ regroup (cond m.0 (45 ∷ []) []) whole t e last;
      ends = λ others a.
          let a2 : Alike (e ++ last) (e ++ others) = alike_behind e last others a in
          let a1 : Alike (t ++ (e ++ last)) (t ++ (e ++ others)) = alike_behind t (e ++ last) (e ++ others) a2 in
          let w_ends : IntEnds whole (t ++ (e ++ last)) = subst (λ (y : List ℕ). IntEnds whole y)
          after (int_ends m.1 whole rest i) in
          let f_ends : FractionEnds fraction (e ++ last) = subst (λ (y : List ℕ). FractionEnds fraction y) exp.spelled
          (fraction_ends_ok rest fraction behind j) in
          let x_ends : ExponentEnds exponent last = exponent_ends_ok behind down exponent last k in
          record {
            int = int_alike whole (t ++ (e ++ last)) (t ++ (e ++ others)) a1 w_ends;
            fraction = fraction_alike fraction (e ++ last) (e ++ others) a2 f_ends;
            exponent = exponent_alike exponent last others a x_ends;
          };
    } in
    record { stays = st; worth_is = ap (λ (d : Bool). worth m.0 whole fraction d exponent) exp.is_down }

pub number_stays : (bytes : List ℕ) (n : ℤ) (rest : List ℕ) → number_at bytes ≡ Ok (n, rest) → Stays bytes rest
unfolding number_at
number_stays bytes n rest h =
    let m = minus_of bytes in
    let p = bound (int_at m.1) (λ whole. fraction_at whole.1 >>= λ fraction. exponent_at fraction.1 >>= λ exponent.
    or_fault (fault.Number (length bytes)) (worth m.0 whole.0 fraction.0 exponent.0.0 exponent.0.1) >>= λ n.
    Ok (n, exponent.1)) (n, rest) h in
    let w = p.value in
    let q = bound (fraction_at w.1)
    (λ fraction. exponent_at fraction.1 >>= λ exponent. or_fault (fault.Number (length bytes))
    (worth m.0 w.0 fraction.0 exponent.0.0 exponent.0.1) >>= λ n. Ok (n, exponent.1)) (n, rest) p.second in
    let f = q.value in
    let r = bound (exponent_at f.1)
    (λ exponent. or_fault (fault.Number (length bytes)) (worth m.0 w.0 f.0 exponent.0.0 exponent.0.1) >>= λ n.
    Ok (n, exponent.1)) (n, rest) q.second in
    let x = r.value in
    let s = bound (or_fault (fault.Number (length bytes)) (worth m.0 w.0 f.0 x.0.0 x.0.1)) (λ n. Ok (n, x.1))
    (n, rest) r.second in
    let (is_n, is_rest) = ok_pair s.value n x.1 rest s.second in
    subst (λ (y : List ℕ). Stays bytes y) is_rest (literally bytes w.0 w.1 f.0 f.1 x.0.0 x.0.1 x.1 p.first q.first
    r.first).stays

-- no number goes on with what stands behind it
is_whole : (l : Literal) (rest : List ℕ) → IsLiteral l →
    ((others : List ℕ) → Alike rest others → LiteralEnds l others) → IsWhole (literal_text l) rest
is_whole l rest ok ends b more e (others, is) =
    let text = literal_text l in
    let alike : Alike rest (b ∷ others) = subst (λ (x : List ℕ). Alike x (b ∷ others)) (sym e) (others, refl) in
    let yes = numeral_run 0 ((text ++ b ∷ []) ++ others) [] [] is refl ∙ nothing_due in
    let no = literal_run 0 l (b ∷ others) [] ok (ends (b ∷ others) alike) ∙ too_long b others in
    let both : true ≡ false = sym yes ∙ ap (λ (x : List ℕ). accepts x (value 0 ∷ [])) (regroup2 text b others) ∙ no in
    absurd cc
  where
    regroup2 : (a : List ℕ) (b : ℕ) (c : List ℕ) → ((a ++ b ∷ []) ++ c) ++ [] ≡ a ++ b ∷ c
    regroup2 a b c = simp (append_assoc, append-nil)

pub number_here : (bytes rest : List ℕ) → Literally bytes None rest → NumberHere bytes
number_here bytes rest w =
    let l = w.stays.literal in
    (literal_text l, rest, (l, w.stays.is, refl, w.worth_is), is_whole l rest w.stays.is w.stays.ends, w.stays.spelled)
