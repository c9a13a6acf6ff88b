-- The machine takes the numbers and strings of the grammar.
use Rattle.std.proofs.Common.{◌≡◌, ℕ, ◌==◌, ◌⊎◌, inl, inr, Bool, true, false, ◌||◌, not, cond, List, [], ◌∷◌, ◌++◌, Option, Some, None, refl, sym, ap, ◌∙◌, append_assoc, arith}
use Rattle.std.proofs.lemmas.Bool.{ne_eqb, not-true}
use Rattle.std.proofs.lemmas.Bool.Decides.{nat_tests}
use Rattle.std.specs.List.{list_all, flat_map}
use Rattle.json_text.specs.declared.lead.Lead.TheVariants as lead
use Rattle.json_text.specs.Numbers.{is_digit, is_int, is_exponent_letter, is_sign, Literal, IsLiteral, literal_text, fraction_text, exponent_text}
use Rattle.json_text.specs.Strings.{is_plain, is_hex, short_escape, is_some_escape, Char, plain, short, unit, is_char, char_text}
use Rattle.json_text.specs.Reading.{lead_by}
use Rattle.json_text.proofs.Sequences.{two_parts}
use Rattle.json_text.proofs.FoundStrings.{all_hex}
use Rattle.json_text.proofs.Spelled.{stops}
use Rattle.json_text.proofs.Machine.{Due, value, int, digits, digit, point, letter, sign as due_sign, chars, escape, hex, takes, refuses, react, accepts, taken, digits_run, point_skip, letter_skip}

-- ---- characters

plain_quote : (b : ℕ) → is_plain b ≡ true → (b == 34) ≡ false
plain_quote b h = grind arith

plain_back : (b : ℕ) → is_plain b ≡ true → (b == 92) ≡ false
plain_back b h = grind arith

plain_react : (b : ℕ) → is_plain b ≡ true → react chars b ≡ takes (chars ∷ [])
plain_react b h =
    ap (λ (t : Bool). cond t (takes [])
    (cond (b == 92) (takes (escape ∷ chars ∷ [])) (cond (is_plain b) (takes (chars ∷ [])) refuses)))
    (plain_quote b h)
    ∙ ap (λ (t : Bool). cond t (takes (escape ∷ chars ∷ [])) (cond (is_plain b) (takes (chars ∷ [])) refuses))
    (plain_back b h)
    ∙ ap (λ (t : Bool). cond t (takes (chars ∷ [])) refuses) h

escape_some : (b : ℕ) (o : Option ℕ) → short_escape b ≡ o → is_some_escape o ≡ true → react escape b ≡ takes []
escape_some b None e h = absurd cc
escape_some b (Some c) e h = rw (no_u, e) refl
  where
    no_u : (b == 117) ≡ false
    no_u = ne_eqb b 117 (λ z. let f : None ≡ Some c = ap (λ (x : ℕ). short_escape x) (sym z) ∙ e in absurd cc)

pub hex_run : (b : ℕ) (bytes : List ℕ) (stack : List Due) → is_hex b ≡ true →
    accepts (b ∷ bytes) (hex ∷ stack) ≡ accepts bytes stack
hex_run b bytes stack h = taken hex b [] bytes stack (rw h refl)

char_run : (c : Char) (bytes : List ℕ) (stack : List Due) → is_char c ≡ true →
    accepts (char_text c ++ bytes) (chars ∷ stack) ≡ accepts bytes (chars ∷ stack)
char_run (plain b) bytes stack h = taken chars b (chars ∷ []) bytes stack (plain_react b h)
char_run (short b) bytes stack h =
    taken chars 92 (escape ∷ chars ∷ []) (b ∷ bytes) stack refl ∙ taken escape b [] bytes (chars ∷ stack)
    (escape_some b (short_escape b) refl h)
char_run (unit a b c d) bytes stack h =
    let k = all_hex (is_hex a) (is_hex b) (is_hex c) (is_hex d) h in
    taken chars 92 (escape ∷ chars ∷ []) (117 ∷ a ∷ b ∷ c ∷ d ∷ bytes) stack refl
    ∙ taken escape 117 (hex ∷ hex ∷ hex ∷ hex ∷ []) (a ∷ b ∷ c ∷ d ∷ bytes) (chars ∷ stack) refl
    ∙ hex_run a (b ∷ c ∷ d ∷ bytes) (hex ∷ hex ∷ hex ∷ chars ∷ stack) k.0
    ∙ hex_run b (c ∷ d ∷ bytes) (hex ∷ hex ∷ chars ∷ stack) k.1
    ∙ hex_run c (d ∷ bytes) (hex ∷ chars ∷ stack) k.2
    ∙ hex_run d bytes (chars ∷ stack) k.3

pub chars_run : (cs : List Char) (bytes : List ℕ) (stack : List Due) → list_all is_char cs ≡ true →
    accepts (flat_map char_text cs ++ bytes) (chars ∷ stack) ≡ accepts bytes (chars ∷ stack)
chars_run [] bytes stack h = refl
chars_run (c ∷ cs) bytes stack h =
    let k = two_parts (is_char c) (list_all is_char cs) h in
    ap (λ (x : List ℕ). accepts x (chars ∷ stack)) (append_assoc (char_text c) (flat_map char_text cs) bytes)
    ∙ char_run c (flat_map char_text cs ++ bytes) stack k.0
    ∙ chars_run cs bytes stack k.1

pub quote_run : (bytes : List ℕ) (stack : List Due) → accepts (34 ∷ bytes) (chars ∷ stack) ≡ accepts bytes stack
quote_run bytes stack = taken chars 34 [] bytes stack refl

-- ---- numbers

digit_run : (b : ℕ) (bs bytes : List ℕ) (stack : List Due) → list_all is_digit (b ∷ bs) ≡ true →
    stops is_digit bytes ≡ true →
    accepts (b ∷ bs ++ bytes) (digit ∷ stack) ≡ accepts bytes stack
digit_run b bs bytes stack h s =
    let k = two_parts (is_digit b) (list_all is_digit bs) h in
    taken digit b (digits ∷ []) (bs ++ bytes) stack (rw k.0 refl) ∙ digits_run bs bytes stack k.1 s

-- what may not stand behind a whole number
unfoldable pub IntEnds : List ℕ → List ℕ → Type 0
IntEnds whole bytes = (whole ≡ 48 ∷ []) ⊎ (stops is_digit bytes ≡ true)

more_react : (b : ℕ) → (b == 48) ≡ false → is_digit b ≡ true → react int b ≡ takes (digits ∷ [])
more_react b z d = rw (z, d) refl

zero_react : (b : ℕ) → (b == 48) ≡ true → react int b ≡ takes []
zero_react b z = rw z refl

one_by : (b : ℕ) (bytes : List ℕ) (stack : List Due) (t : Bool) → (b == 48) ≡ t → is_digit b ≡ true →
    IntEnds (b ∷ []) bytes →
    accepts (b ∷ bytes) (int ∷ stack) ≡ accepts bytes stack
unfolding IntEnds
one_by b bytes stack true z d e = taken int b [] bytes stack (zero_react b z)
one_by b bytes stack false z d (inl same) = let first : b ≡ 48 = cc in let never : (b == 48) ≡ true = rw first refl in
    absurd cc
one_by b bytes stack false z d (inr s) = taken int b (digits ∷ []) bytes stack (more_react b z d)
    ∙ digits_run [] bytes stack refl s

pub int_run : (whole bytes : List ℕ) (stack : List Due) → is_int whole ≡ true → IntEnds whole bytes →
    accepts (whole ++ bytes) (int ∷ stack) ≡ accepts bytes stack
unfolding IntEnds
int_run [] bytes stack h e = absurd cc
int_run (b ∷ []) bytes stack h e = one_by b bytes stack (b == 48) refl h e
int_run (b ∷ c ∷ bs) bytes stack h (inl same) = absurd cc
int_run (b ∷ c ∷ bs) bytes stack h (inr s) =
    let p = two_parts (not (b == 48)) (list_all is_digit (b ∷ c ∷ bs)) h in
    let k = two_parts (is_digit b) (list_all is_digit (c ∷ bs)) p.1 in
    taken int b (digits ∷ []) (c ∷ bs ++ bytes) stack (more_react b (not-true (b == 48) p.0) k.0)
    ∙ digits_run (c ∷ bs) bytes stack k.1 s

-- what may not stand behind a fraction
unfoldable pub FractionEnds : List ℕ → List ℕ → Type 0
FractionEnds [] bytes = stops (λ b. b == 46) bytes ≡ true
FractionEnds (b ∷ bs) bytes = stops is_digit bytes ≡ true

pub fraction_ends : (fraction bytes : List ℕ) → stops is_digit bytes ≡ true → stops (λ b. b == 46) bytes ≡ true →
    FractionEnds fraction bytes
unfolding FractionEnds
fraction_ends [] bytes s p = p
fraction_ends (b ∷ bs) bytes s p = s

pub fraction_run : (fraction bytes : List ℕ) (stack : List Due) → list_all is_digit fraction ≡ true →
    FractionEnds fraction bytes →
    accepts (fraction_text fraction ++ bytes) (point ∷ stack) ≡ accepts bytes stack
unfolding FractionEnds
fraction_run [] bytes stack h e = point_skip bytes stack e
fraction_run (b ∷ bs) bytes stack h e = taken point 46 (digit ∷ []) (b ∷ bs ++ bytes) stack refl
    ∙ digit_run b bs bytes stack h e

-- what may not stand behind an exponent
unfoldable pub ExponentEnds : List ℕ → List ℕ → Type 0
ExponentEnds [] bytes = stops is_exponent_letter bytes ≡ true
ExponentEnds (b ∷ bs) bytes = stops is_digit bytes ≡ true

digit_unsigned : (b : ℕ) → is_digit b ≡ true → ((b == 43) || (b == 45)) ≡ false
digit_unsigned b h = grind arith

sign_run : (sign : List ℕ) (b : ℕ) (bs bytes : List ℕ) (stack : List Due) → is_sign sign ≡ true →
    list_all is_digit (b ∷ bs) ≡ true →
    stops is_digit bytes ≡ true →
    accepts (sign ++ (b ∷ bs ++ bytes)) (due_sign ∷ stack) ≡ accepts bytes stack
sign_run [] b bs bytes stack h d s =
    let k = two_parts (is_digit b) (list_all is_digit bs) d in
    taken due_sign b (digits ∷ []) (bs ++ bytes) stack (rw (digit_unsigned b k.0, k.0) refl)
    ∙ digits_run bs bytes stack k.1 s
sign_run (x ∷ []) b bs bytes stack h d s = taken due_sign x (digit ∷ []) (b ∷ bs ++ bytes) stack (rw h refl)
    ∙ digit_run b bs bytes stack d s
sign_run (x ∷ y ∷ more) b bs bytes stack h d s = absurd cc

exponent_run : (first : ℕ) (sign exponent bytes : List ℕ) (stack : List Due) → is_exponent_letter first ≡ true →
    is_sign sign ≡ true →
    list_all is_digit exponent ≡ true → ExponentEnds exponent bytes →
    accepts (exponent_text first sign exponent ++ bytes) (letter ∷ stack) ≡ accepts bytes stack
unfolding ExponentEnds
exponent_run first sign [] bytes stack l s d e = letter_skip bytes stack e
exponent_run first sign (b ∷ bs) bytes stack l s d e =
    taken letter first (due_sign ∷ []) (sign ++ b ∷ bs ++ bytes) stack (rw l refl)
    ∙ ap (λ (x : List ℕ). accepts x (due_sign ∷ stack)) (append_assoc sign (b ∷ bs) bytes)
    ∙ sign_run sign b bs bytes stack s d e

digit_lead : (b : ℕ) → is_digit b ≡ true → lead_by b ≡ lead.Number
digit_lead b h = grind (arith, nat_tests)

digit_minus : (b : ℕ) → is_digit b ≡ true → (b == 45) ≡ false
digit_minus b h = grind arith

first_zero : (r b : ℕ) → (b == 48) ≡ true → is_digit b ≡ true → react (value r) b ≡ takes (point ∷ letter ∷ [])
first_zero r b z d = rw (digit_lead b d, digit_minus b d, z) refl

first_more : (r b : ℕ) → (b == 48) ≡ false → is_digit b ≡ true →
    react (value r) b ≡ takes (digits ∷ point ∷ letter ∷ [])
first_more r b z d = rw (digit_lead b d, digit_minus b d, z) refl

-- a value that begins with a digit is a whole number and what may follow it
first_by : (r b : ℕ) (bytes : List ℕ) (stack : List Due) (t : Bool) → (b == 48) ≡ t → is_digit b ≡ true →
    accepts (b ∷ bytes) (value r ∷ stack) ≡ accepts (b ∷ bytes) (int ∷ point ∷ letter ∷ stack)
first_by r b bytes stack true z d =
    taken (value r) b (point ∷ letter ∷ []) bytes stack (first_zero r b z d)
    ∙ sym (taken int b [] bytes (point ∷ letter ∷ stack) (zero_react b z))
first_by r b bytes stack false z d =
    taken (value r) b (digits ∷ point ∷ letter ∷ []) bytes stack (first_more r b z d)
    ∙ sym (taken int b (digits ∷ []) bytes (point ∷ letter ∷ stack) (more_react b z d))

first_digit : (r : ℕ) (whole bytes : List ℕ) (stack : List Due) → is_int whole ≡ true →
    accepts (whole ++ bytes) (value r ∷ stack) ≡ accepts (whole ++ bytes) (int ∷ point ∷ letter ∷ stack)
first_digit r [] bytes stack h = absurd cc
first_digit r (b ∷ []) bytes stack h = first_by r b bytes stack (b == 48) refl h
first_digit r (b ∷ c ∷ bs) bytes stack h =
    let p = two_parts (not (b == 48)) (list_all is_digit (b ∷ c ∷ bs)) h in
    let k = two_parts (is_digit b) (list_all is_digit (c ∷ bs)) p.1 in
    first_by r b (c ∷ bs ++ bytes) stack (b == 48) refl k.0

pub minus_run : (r : ℕ) (minus : Bool) (whole bytes : List ℕ) (stack : List Due) → is_int whole ≡ true →
    accepts (cond minus (45 ∷ []) [] ++ (whole ++ bytes)) (value r ∷ stack) ≡ accepts (whole ++ bytes)
    (int ∷ point ∷ letter ∷ stack)
minus_run r true whole bytes stack h = taken (value r) 45 (int ∷ point ∷ letter ∷ []) (whole ++ bytes) stack refl
minus_run r false whole bytes stack h = first_digit r whole bytes stack h

-- a literal, where the bytes behind it don't go on with it
pub record LiteralEnds (l : Literal) (bytes : List ℕ) : Type 0 where
  pub int : IntEnds l.whole (fraction_text l.fraction ++ (exponent_text l.letter l.sign l.exponent ++ bytes))
  pub fraction : FractionEnds l.fraction (exponent_text l.letter l.sign l.exponent ++ bytes)
  pub exponent : ExponentEnds l.exponent bytes

regroup : (a b c d rest : List ℕ) → a ++ b ++ c ++ d ++ rest ≡ a ++ (b ++ (c ++ (d ++ rest)))
regroup a b c d rest = simp append_assoc

pub literal_run : (r : ℕ) (l : Literal) (bytes : List ℕ) (stack : List Due) → IsLiteral l → LiteralEnds l bytes →
    accepts (literal_text l ++ bytes) (value r ∷ stack) ≡ accepts bytes stack
literal_run r l bytes stack ok e =
    let y = exponent_text l.letter l.sign l.exponent ++ bytes in
    let x = fraction_text l.fraction ++ y in
    ap (λ (z : List ℕ). accepts z (value r ∷ stack))
    (regroup (cond l.minus (45 ∷ []) []) l.whole (fraction_text l.fraction)
    (exponent_text l.letter l.sign l.exponent) bytes)
    ∙ minus_run r l.minus l.whole x stack ok.whole
    ∙ int_run l.whole x (point ∷ letter ∷ stack) ok.whole e.int
    ∙ fraction_run l.fraction y (letter ∷ stack) ok.fraction e.fraction
    ∙ exponent_run l.letter l.sign l.exponent bytes stack ok.letter ok.sign ok.exponent e.exponent
