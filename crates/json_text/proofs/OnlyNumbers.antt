-- A number of the grammar is read as what it is worth.
use Rattle.std.proofs.Common.{◌≡◌, ℕ, suc, ℤ, ◌==◌, Bool, true, false, ◌&&◌, ◌||◌, not, cond, List, [], ◌∷◌, ◌++◌, length, take, drop, Some, Ok, Err, refl, sym, ap, ◌∙◌, append_assoc, arith}
use Rattle.std.proofs.lemmas.Bool.{ne_eqb, not-true}
use Rattle.std.proofs.lemmas.List.{take_at, drop_at}
use Rattle.std.specs.List.{prefix_len, list_all}
use Rattle.json_text.specs.declared.fault.Fault.{Fault}
use Rattle.json_text.specs.Numbers.{is_digit, is_int, is_exponent_letter, is_sign, is_minus, fraction_text, exponent_text, worth, IsNumber}
use Rattle.json_text.specs.Reading.{Read, unexpected, digits_at, int_at, fraction_at, exponent_at, sign_of, minus_of, number_at}
use Rattle.json_text.proofs.Spelled.{stops, front_len, ends_value, no_digit, no_point, no_letter}

digits_by : (bytes : List ℕ) (f : Fault) (n m : ℕ) → n ≡ suc m →
    ◌≡◌ {A = Read (List ℕ)} (cond (n == 0) (Err f) (Ok (take n bytes, drop n bytes)))
    (Ok (take (suc m) bytes, drop (suc m) bytes))
digits_by bytes f n m e = rw (e, ne_eqb (suc m) 0 (λ z. omega arith)) refl

digits_here : (first : ℕ) (others rest : List ℕ) → list_all is_digit (first ∷ others) ≡ true →
    stops is_digit rest ≡ true →
    digits_at (first ∷ others ++ rest) ≡ Ok (first ∷ others, rest)
unfolding digits_at
digits_here first others rest h s =
    let bytes = first ∷ others ++ rest in
    digits_by bytes (unexpected bytes) (prefix_len is_digit bytes) (length others)
    (front_len is_digit (first ∷ others) rest h s)
    ∙ ap (λ (x : List ℕ). Ok (x, drop (suc (length others)) bytes))
    (take_at (first ∷ others) rest (suc (length others)) refl)
    ∙ ap (λ (x : List ℕ). Ok (first ∷ others, x)) (drop_at (first ∷ others) rest (suc (length others)) refl)

int_by : (b : ℕ) (rest : List ℕ) (t : Bool) → (b == 48) ≡ t → is_digit b ≡ true → stops is_digit rest ≡ true →
    ◌≡◌ {A = Read (List ℕ)} (cond t (Ok (b ∷ [], rest)) (digits_at (b ∷ rest))) (Ok (b ∷ [], rest))
int_by b rest true e h s = refl
int_by b rest false e h s = digits_here b [] rest (rw h refl) s

pub two_parts : (x y : Bool) → (x && y) ≡ true → (x ≡ true) × (y ≡ true)
two_parts true true h = (refl, refl)
two_parts true false h = absurd cc
two_parts false y h = absurd cc

int_here : (whole rest : List ℕ) → is_int whole ≡ true → stops is_digit rest ≡ true →
    int_at (whole ++ rest) ≡ Ok (whole, rest)
unfolding int_at
int_here [] rest h s = absurd cc
int_here (b ∷ []) rest h s = int_by b rest (b == 48) refl h s
int_here (b ∷ c ∷ bs) rest h s =
    let p = two_parts (not (b == 48)) (list_all is_digit (b ∷ c ∷ bs)) h in
    rw (not-true (b == 48) p.0) (digits_here b (c ∷ bs) rest p.1 s)

fraction_by : (b : ℕ) (bytes : List ℕ) → not (b == 46) ≡ true → fraction_at (b ∷ bytes) ≡ Ok ([], b ∷ bytes)
unfolding fraction_at
fraction_by b bytes h = rw (not-true (b == 46) h) refl

fraction_here : (fraction rest : List ℕ) → list_all is_digit fraction ≡ true → stops is_digit rest ≡ true →
    stops (λ b. b == 46) rest ≡ true →
    fraction_at (fraction_text fraction ++ rest) ≡ Ok (fraction, rest)
unfolding fraction_at
fraction_here [] [] h s p = refl
fraction_here [] (b ∷ rest) h s p = fraction_by b rest p
fraction_here (b ∷ bs) rest h s p = digits_here b bs rest h s

-- what is read of a sign
sign_by : (b : ℕ) (bytes : List ℕ) → is_digit b ≡ true → sign_of (b ∷ bytes) ≡ (false, b ∷ bytes)
sign_by b bytes h = rw (no_minus b h, no_plus b h) refl
  where
    no_minus : (b : ℕ) → is_digit b ≡ true → (b == 45) ≡ false
    no_minus b h = grind arith

    no_plus : (b : ℕ) → is_digit b ≡ true → (b == 43) ≡ false
    no_plus b h = grind arith

sign_with : (s b : ℕ) (bytes : List ℕ) (p m : Bool) → (s == 43) ≡ p → (s == 45) ≡ m →
    (p || m) ≡ true → sign_of (s ∷ b ∷ bytes) ≡ (m, b ∷ bytes)
sign_with s b bytes p true e f h = rw f refl
sign_with s b bytes true false e f h = rw (f, e) refl
sign_with s b bytes false false e f h = absurd cc

sign_here : (sign : List ℕ) (b : ℕ) (bytes : List ℕ) → is_sign sign ≡ true → is_digit b ≡ true →
    sign_of (sign ++ b ∷ bytes) ≡ (is_minus sign, b ∷ bytes)
sign_here [] b bytes h d = sign_by b bytes d
sign_here (s ∷ []) b bytes h d = sign_with s b bytes (s == 43) (s == 45) refl refl h
sign_here (s ∷ t ∷ more) b bytes h d = absurd cc

-- what is read as below 0
abbrev read_down : List ℕ → List ℕ → Bool
read_down sign [] = false
read_down sign (b ∷ bs) = is_minus sign

no_exponent : (b : ℕ) (rest : List ℕ) → not (is_exponent_letter b) ≡ true →
    exponent_at (b ∷ rest) ≡ Ok ((false, []), b ∷ rest)
unfolding exponent_at
no_exponent b rest h = rw (not-true (is_exponent_letter b) h) refl

exponent_as : (letter : ℕ) (bytes : List ℕ) (down : Bool) (more digits rest : List ℕ) →
    is_exponent_letter letter ≡ true →
    sign_of bytes ≡ (down, more) → digits_at more ≡ Ok (digits, rest) →
    exponent_at (letter ∷ bytes) ≡ Ok ((down, digits), rest)
unfolding exponent_at
exponent_as letter bytes down more digits rest l s d = rw (l, s, d) refl

exponent_here : (letter : ℕ) (sign exponent rest : List ℕ) → is_exponent_letter letter ≡ true → is_sign sign ≡ true →
    list_all is_digit exponent ≡ true → ends_value rest ≡ true →
    exponent_at (exponent_text letter sign exponent ++ rest) ≡ Ok ((read_down sign exponent, exponent), rest)
unfolding exponent_at
exponent_here letter sign [] [] l s h e = refl
exponent_here letter sign [] (b ∷ rest) l s h e = no_exponent b rest (no_letter (b ∷ rest) e)
exponent_here letter sign (b ∷ bs) rest l s h e =
    let p = two_parts (is_digit b) (list_all is_digit bs) h in
    let signed : sign_of (sign ++ b ∷ bs ++ rest) ≡ (is_minus sign, b ∷ bs ++ rest) = ap (λ (x : List ℕ). sign_of x)
    (append_assoc sign (b ∷ bs) rest) ∙ sign_here sign b (bs ++ rest) s p.0 in
    exponent_as letter (sign ++ b ∷ bs ++ rest) (is_minus sign) (b ∷ bs ++ rest)
    (b ∷ bs) rest l signed (digits_here b bs rest h (no_digit rest e))

pub letter_no_digit : (b : ℕ) → is_exponent_letter b ≡ true → not (is_digit b) ≡ true
letter_no_digit b h = grind arith

pub letter_no_point : (b : ℕ) → is_exponent_letter b ≡ true → not (b == 46) ≡ true
letter_no_point b h = grind arith

pub exponent_no_digit : (letter : ℕ) (sign exponent rest : List ℕ) → is_exponent_letter letter ≡ true →
    ends_value rest ≡ true →
    stops is_digit (exponent_text letter sign exponent ++ rest) ≡ true
exponent_no_digit letter sign [] rest l e = no_digit rest e
exponent_no_digit letter sign (b ∷ bs) rest l e = letter_no_digit letter l

pub exponent_no_point : (letter : ℕ) (sign exponent rest : List ℕ) → is_exponent_letter letter ≡ true →
    ends_value rest ≡ true →
    stops (λ b. b == 46) (exponent_text letter sign exponent ++ rest) ≡ true
exponent_no_point letter sign [] rest l e = no_point rest e
exponent_no_point letter sign (b ∷ bs) rest l e = letter_no_point letter l

pub fraction_no_digit : (fraction rest : List ℕ) → stops is_digit rest ≡ true →
    stops is_digit (fraction_text fraction ++ rest) ≡ true
fraction_no_digit [] rest s = s
fraction_no_digit (b ∷ bs) rest s = refl

int_no_minus : (whole rest : List ℕ) → is_int whole ≡ true → minus_of (whole ++ rest) ≡ (false, whole ++ rest)
int_no_minus [] rest h = absurd cc
int_no_minus (b ∷ []) rest h = rw (no_minus b h) refl
  where
    no_minus : (b : ℕ) → is_digit b ≡ true → (b == 45) ≡ false
    no_minus b h = grind arith
int_no_minus (b ∷ c ∷ bs) rest h =
    let p = two_parts (not (b == 48)) (list_all is_digit (b ∷ c ∷ bs)) h in
    let q = two_parts (is_digit b) (list_all is_digit (c ∷ bs)) p.1 in
    rw (no_minus b q.0) refl
  where
    no_minus : (b : ℕ) → is_digit b ≡ true → (b == 45) ≡ false
    no_minus b h = grind arith

minus_here : (minus : Bool) (whole rest : List ℕ) → is_int whole ≡ true →
    minus_of (cond minus (45 ∷ []) [] ++ (whole ++ rest)) ≡ (minus, whole ++ rest)
minus_here true whole rest h = refl
minus_here false whole rest h = int_no_minus whole rest h

-- without digits a sign says nothing
same_worth : (minus : Bool) (whole fraction sign exponent : List ℕ) →
    worth minus whole fraction (read_down sign exponent) exponent ≡ worth minus whole fraction (is_minus sign) exponent
same_worth minus whole fraction sign [] = by (is_minus sign)
  where
    by : (down : Bool) → worth minus whole fraction false [] ≡ worth minus whole fraction down []
    by true = refl
    by false = refl
same_worth minus whole fraction sign (b ∷ bs) = refl

number_as : (bytes : List ℕ) (minus : Bool) (more whole r1 fraction r2 : List ℕ) (down : Bool) (exponent rest : List ℕ)
    (n : ℤ) →
    minus_of bytes ≡ (minus, more) → int_at more ≡ Ok (whole, r1) → fraction_at r1 ≡ Ok (fraction, r2) →
    exponent_at r2 ≡ Ok ((down, exponent), rest) →
    worth minus whole fraction down exponent ≡ Some n → number_at bytes ≡ Ok (n, rest)
unfolding number_at
number_as bytes minus more whole r1 fraction r2 down exponent rest n m i f x w = rw (m, i, f, x, w) refl

regroup : (a b c d rest : List ℕ) → a ++ b ++ c ++ d ++ rest ≡ a ++ (b ++ (c ++ (d ++ rest)))
regroup a b c d rest = simp append_assoc

pub number_here : (text : List ℕ) (n : ℤ) (rest : List ℕ) → IsNumber text (Some n) → ends_value rest ≡ true →
    number_at (text ++ rest) ≡ Ok (n, rest)
number_here text n rest (l, ok, spelled, w) e =
    let x = exponent_text l.letter l.sign l.exponent ++ rest in
    let f = fraction_text l.fraction ++ x in
    let s = exponent_no_digit l.letter l.sign l.exponent rest ok.letter e in
    let p = exponent_no_point l.letter l.sign l.exponent rest ok.letter e in
    let bytes : text ++ rest ≡ cond l.minus (45 ∷ []) [] ++ (l.whole ++ f) = ap (λ (y : List ℕ). y ++ rest) spelled
    ∙ regroup (cond l.minus (45 ∷ []) []) l.whole (fraction_text l.fraction)
    (exponent_text l.letter l.sign l.exponent) rest in
    rw bytes
    (number_as (cond l.minus (45 ∷ []) [] ++ (l.whole ++ f)) l.minus (l.whole ++ f) l.whole f l.fraction
    x (read_down l.sign l.exponent) l.exponent rest n
    (minus_here l.minus l.whole f ok.whole)
    (int_here l.whole f ok.whole (fraction_no_digit l.fraction x s))
    (fraction_here l.fraction x ok.fraction s p)
    (exponent_here l.letter l.sign l.exponent rest ok.letter ok.sign ok.exponent e)
    (same_worth l.minus l.whole l.fraction l.sign l.exponent ∙ sym w))
