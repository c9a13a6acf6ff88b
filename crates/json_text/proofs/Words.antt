-- The bytes of a word one after the other, and what can't go on.
use Rattle.std.proofs.Common.{◌≡◌, ℕ, suc, ◌+◌, ◌<◌, ◌≤◌, ◌==◌, Bool, true, false, ◌&&◌, not, List, [], ◌∷◌, length, get_or, drop, Option, Some, None, Result, Ok, Err, take, refl, sym, ap, ◌∙◌, add-one, drop-cons, arith, cond, eq-eqb}
use Rattle.std.proofs.lemmas.List.{drop_all}
use Rattle.std.specs.Option.{SomeIff}
use Rattle.std.specs.List.{prefix_len}
use Rattle.std.specs.Prelude.{IsTrue}
use Rattle.std.specs.Char.{IsScalar}
use Rattle.json_text.specs.Strings.{is_plain, is_high, is_low, pair_value}
use Rattle.std.specs.Str.{IsUtf8}
use Rattle.std.specs.Str.Lossy.{utf8_valid_len}
use Rattle.std.proofs.lemmas.Str.{utf8_valid_len-IsUtf8}
use Rattle.json_text.specs.declared.fault.Fault.{Fault}
use Rattle.json_text.specs.declared.fault.Fault.TheVariants as fault
use Rattle.json_text.specs.Reading.{◌>>=◌, unexpected, byte_at, word_at, run_at}

unrolled : (wanted : ℕ) (more rest : List ℕ) →
    word_at (wanted ∷ more) rest ≡ (byte_at wanted rest >>= λ behind. word_at more behind)
unfolding word_at
unrolled wanted more rest = refl

word_end : (rest : List ℕ) → word_at [] rest ≡ Ok rest
unfolding word_at
word_end rest = refl

at_byte : (wanted : List ℕ) (i : ℕ) (rest : List ℕ) → i < length wanted →
    word_at (drop i wanted) rest ≡ (byte_at (get_or wanted i 0) rest >>= λ behind. word_at (drop (i + 1) wanted) behind)
at_byte wanted i rest lt = rw (add-one, drop-cons wanted i 0) (unrolled (get_or wanted i 0) (drop (suc i) wanted) rest)

pub word_goes : (wanted : List ℕ) (i : ℕ) (rest behind : List ℕ) (whole : Result (List ℕ) Fault) → i < length wanted →
    byte_at (get_or wanted i 0) rest ≡ Ok behind → word_at (drop i wanted) rest ≡ whole →
    word_at (drop (i + 1) wanted) behind ≡ whole
word_goes wanted i rest behind whole lt e h =
    sym (at_byte wanted i rest lt ∙ ap (λ (r : Result (List ℕ) Fault). r >>= λ x. word_at (drop (i + 1) wanted) x) e)
    ∙ h

pub word_fails : (wanted : List ℕ) (i : ℕ) (rest : List ℕ) (whole : Result (List ℕ) Fault) (f : Fault) →
    i < length wanted →
    byte_at (get_or wanted i 0) rest ≡ Err f → word_at (drop i wanted) rest ≡ whole → whole ≡ Err f
word_fails wanted i rest whole f lt e h = sym h ∙ at_byte wanted i rest lt
    ∙ ap (λ (r : Result (List ℕ) Fault). r >>= λ x. word_at (drop (i + 1) wanted) x) e

nothing_left : (wanted : List ℕ) (i : ℕ) → length wanted ≤ i → drop i wanted ≡ []
nothing_left wanted i le = drop_all i wanted le

pub word_ends : (wanted : List ℕ) (i : ℕ) (rest : List ℕ) (whole : Result (List ℕ) Fault) → length wanted ≤ i →
    word_at (drop i wanted) rest ≡ whole →
    whole ≡ Ok rest
word_ends wanted i rest whole le h = sym h ∙ ap (λ (w : List ℕ). word_at w rest) (nothing_left wanted i le)
    ∙ word_end rest

never : (b : Bool) (x y : Fault) → y ≡ cond (b && not b) x y
never true x y = refl
never false x y = refl

pub all_text : (bytes : List ℕ) → IsUtf8 bytes → fault.Syntax (length bytes) ≡ unexpected bytes
all_text bytes h = rw (utf8_valid_len-IsUtf8 bytes h)
    (never (length bytes == 0) (fault.Utf8 (length bytes)) (fault.Syntax (length bytes)))

-- a call that is Some exactly where it may be
pub some_where : {P : Type 0} (r : Option ℕ) (v : ℕ) → SomeIff r P v → P → r ≡ Some v
some_where None v h p = absurd (h p)
some_where (Some x) v h p = ap (λ (y : ℕ). Some y) h.1

pub run_ok : (bytes : List ℕ) (n : ℕ) (text front back : List ℕ) → n ≡ prefix_len is_plain bytes →
    front ≡ take n bytes → back ≡ drop n bytes →
    text ≡ front → IsUtf8 front → run_at bytes ≡ Ok (text, back)
unfolding run_at
run_ok bytes n text front back n-is front-is back-is text-is h =
    let whole : utf8_valid_len (take n bytes) ≡ length (take n bytes) = rw (← front-is)
    (utf8_valid_len-IsUtf8 front h) in
    let same : (length (take n bytes) == length (take n bytes)) ≡ true = eq-eqb (length (take n bytes))
    (length (take n bytes)) refl in
    rw (text-is, front-is, back-is, ← n-is, whole) (rw same refl)

pair_scalar : (high low : ℕ) → IsTrue (is_high high) → IsTrue (is_low low) → IsScalar (pair_value high low)
pair_scalar high low h l = grind arith

-- a surrogate pair is always a character
pub pair_is : (r : Option ℕ) (high low a b : ℕ) → a ≡ high → b ≡ low → SomeIff r (IsScalar (pair_value a b))
    (pair_value a b) →
    IsTrue (is_high high) → IsTrue (is_low low) → r ≡ Some (pair_value high low)
pair_is r high low a b a-is b-is s h l =
    some_where r (pair_value a b) s (rw (a-is, b-is) (pair_scalar high low h l)) ∙ ap (λ (x : ℕ). Some (pair_value x b))
    a-is ∙ ap (λ (y : ℕ). Some (pair_value high y)) b-is
