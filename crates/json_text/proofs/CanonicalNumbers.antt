-- The text of a number is worth that number.
use Rattle.std.proofs.Common.{◌≡◌, ℕ, zero, suc, ℤ, pos, negsuc, ◌+◌, ◌-◌, ◌*◌, ◌/◌, ◌%◌, ◌^◌, ◌<◌, ◌≤◌, ◌==◌, inl, inr, Bool, true, false, ◌&&◌, cond, List, [], ◌∷◌, ◌++◌, length, Option, Some, refl, sym, ap, subst, ◌∙◌, append_assoc, arith, ltb}
use Rattle.std.proofs.lemmas.Bool.{cases_lt, ne_eqb, eqb-true, le-ltb, lt-ltb, ltb-true, and_from}
use Rattle.std.proofs.lemmas.Fmt.{decimal_by_steps_wide}
use Rattle.std.proofs.lemmas.List.{append-nil}
use Rattle.std.proofs.lemmas.List.Folds.{list_all-append}
use Rattle.std.proofs.lemmas.List.Sums.{fold-append}
use Rattle.std.proofs.lemmas.Nat.{pow-add}
use Rattle.std.proofs.Math.Nat.{mul-le-mul_left, mul-mod_left, mul-div_cancel, mul_assoc}
use Rattle.std.specs.Prelude.{int_lt}
use Rattle.std.specs.Fmt.{decimal}
use Rattle.std.specs.List.{list_all}
use Rattle.json_text.specs.Numbers.{is_digit, digits_from, digits_value, is_int, fraction_text, Literal, IsLiteral, whole_units, magnitude, with_sign, IsNumber, signed}
use Rattle.json_text.specs.Canonical.{places_text, point_text, magnitude_text, units_text, is_decimal}
use Rattle.json_text.proofs.Written.{ten_positive}

digit_is : (d : ℕ) → d < 10 → is_digit (48 + d) ≡ true
digit_is d lt = grind arith

-- ---- whole digits

pub record DecimalText (n : ℕ) (ds : List ℕ) : Type 0 where
  pub digits : list_all is_digit ds ≡ true
  pub value : digits_value ds ≡ n
  pub int : is_int ds ≡ true
  pub lead : 0 < n → (first : ℕ) × (others : List ℕ) × (ds ≡ first ∷ others) × ((first == 48) ≡ false)

one_digit : (n : ℕ) → n < 10 → DecimalText n ((48 + n) ∷ [])
one_digit n lt = record {
  digits = rw (digit_is n lt) refl;
  value = omega arith;
  int = digit_is n lt;
  lead = λ some. (48 + n, [], refl, ne_eqb (48 + n) 48 (λ e. omega arith));
}

long_int : (first : ℕ) (others : List ℕ) (d : ℕ) → (first == 48) ≡ false → list_all is_digit (first ∷ (others ++ d ∷ [])) ≡ true →
    is_int (first ∷ (others ++ d ∷ [])) ≡ true
long_int first [] d ne h = rw ne h
long_int first (c ∷ others) d ne h = rw ne h

more_digits : (n : ℕ) (ds : List ℕ) → 10 ≤ n → DecimalText (n / 10) ds → DecimalText n (ds ++ ((48 + n % 10) ∷ []))
more_digits n ds le t =
    let d = 48 + n % 10 in
    let lt : n % 10 < 10 = omega arith in
    let some : 0 < n / 10 = omega arith in
    let (first, others, are, ne) = t.lead some in
    let one : list_all is_digit (d ∷ []) ≡ true = rw (digit_is (n % 10) lt) refl in
    let all : list_all is_digit (ds ++ d ∷ []) ≡ true = list_all-append is_digit ds (d ∷ []) ∙
    and_from (list_all is_digit ds) (list_all is_digit (d ∷ [])) t.digits one in
    let written : ds ++ d ∷ [] ≡ first ∷ (others ++ d ∷ []) = ap (λ (x : List ℕ). x ++ d ∷ []) are in
    record {
      digits = all;
      value = fold-append (λ k b. k * 10 + (b - 48)) 0 ds (d ∷ []) ∙ ap (λ (k : ℕ). k * 10 + (d - 48)) t.value ∙ last_digit n;
      int = subst (λ (x : List ℕ). is_int x ≡ true) (sym written)
          (long_int first others d ne (subst (λ (x : List ℕ). list_all is_digit x ≡ true) written all));
      lead = λ z. (first, others ++ d ∷ [], written, ne);
    }
  where
    last_digit : (n : ℕ) → n / 10 * 10 + (48 + n % 10 - 48) ≡ n
    last_digit n = omega arith

decimal_text : (n : ℕ) → n < 10 ^ 64 → DecimalText n (decimal n)
decimal_text n lt = decimal_by_steps_wide DecimalText one_digit more_digits n lt

-- ---- places

pub record PlacesText (k w r : ℕ) (f : List ℕ) : Type 0 where
  pub digits : list_all is_digit f ≡ true
  pub short : length f ≤ k
  pub value : digits_from w f * 10 ^ (k - length f) ≡ w * 10 ^ k + r

next_power : (k : ℕ) → 10 ^ suc k ≡ 10 ^ k * 10
next_power k = let s : suc k ≡ k + 1 = omega arith in ap (λ (n : ℕ). 10 ^ n) s ∙ pow-add 10 k 1

parts_of : (w d p r : ℕ) → (w * 10 + d) * p + r ≡ w * (p * 10) + (p * d + r)
parts_of w d p r = omega arith

place_below : (k r : ℕ) → r < 10 ^ suc k → r / 10 ^ k < 10
place_below k r lt = div_below (10 ^ k) r (ten_positive k) (subst (λ (n : ℕ). r < n) (next_power k) lt)
  where
    div_below : (p r : ℕ) → 0 < p → r < p * 10 → r / p < 10
    div_below p r some lt =
        elim (cases_lt (r / p) 10) [
          | inl small ↦ small
          | inr large ↦ let h = mul-le-mul_left p large in absurd (omega arith)
        ]

more_places : (k w r : ℕ) (f : List ℕ) → r < 10 ^ suc k → PlacesText k (w * 10 + r / 10 ^ k) (r % 10 ^ k) f →
    PlacesText (suc k) w r ((48 + r / 10 ^ k) ∷ f)
more_places k w r f lt t =
    let d = r / 10 ^ k in
    let small = place_below k r lt in
    let s : suc k - suc (length f) ≡ k - length f = omega arith in
    let same : w * 10 + (48 + d - 48) ≡ w * 10 + d = omega arith in
    let whole : 10 ^ k * (r / 10 ^ k) + r % 10 ^ k ≡ r = let some = ten_positive k in omega arith in
    record {
      digits = rw (digit_is d small) t.digits;
      short = let h = t.short in omega arith;
      value =
          ap (λ (v : ℕ). digits_from v f * 10 ^ (suc k - suc (length f))) same
          ∙ ap (λ (e : ℕ). digits_from (w * 10 + d) f * 10 ^ e) s
          ∙ t.value
          ∙ parts_of w d (10 ^ k) (r % 10 ^ k)
          ∙ ap (λ (x : ℕ). w * (10 ^ k * 10) + x) whole
          ∙ ap (λ (x : ℕ). w * x + r) (sym (next_power k));
    }

places_by : (k w r : ℕ) (t : Bool) → (r == 0) ≡ t →
    PlacesText (suc k) w r (cond t [] ((48 + r / 10 ^ k) ∷ places_text k (r % 10 ^ k))) →
    PlacesText (suc k) w r (places_text (suc k) r)
unfolding places_text
places_by k w r t e p = rw e p

no_places_left : (k w r : ℕ) → r ≡ 0 → PlacesText k w r []
no_places_left k w r e =
    let z : k - 0 ≡ k = omega arith in
    let same : w * 10 ^ k ≡ w * 10 ^ k + r = omega arith in
    record { digits = refl; short = omega arith; value = ap (λ (n : ℕ). w * 10 ^ n) z ∙ same }

places_are : (k w r : ℕ) → r < 10 ^ k → PlacesText k w r (places_text k r)
unfolding places_text
places_are zero w r lt = no_places_left zero w r (omega arith)
places_are (suc k) w r lt =
    by (r == 0) refl (more_places k w r (places_text k (r % 10 ^ k)) lt
    (places_are k (w * 10 + r / 10 ^ k) (r % 10 ^ k) (let some = ten_positive k in omega arith)))
  where
    by : (t : Bool) → (r == 0) ≡ t → PlacesText (suc k) w r ((48 + r / 10 ^ k) ∷ places_text k (r % 10 ^ k)) →
        PlacesText (suc k) w r (places_text (suc k) r)
    by true e p = places_by k w r true e (no_places_left (suc k) w r (eqb-true r 0 e))
    by false e p = places_by k w r false e p

-- ---- numbers

point_by : (r : ℕ) (t : Bool) → (r == 0) ≡ t → cond t [] (46 ∷ places_text 18 r) ≡ fraction_text (places_text 18 r)
unfolding places_text
point_by r true e = rw (eqb-true r 0 e) refl
point_by r false e = rw e refl

point_is : (r : ℕ) → point_text r ≡ fraction_text (places_text 18 r)
point_is r = point_by r (r == 0) refl

scaled_up : (d l : ℕ) → l ≤ 18 → d * 10 ^ 18 ≡ d * 10 ^ (18 - l) * 10 ^ l
scaled_up d l le =
    let s : 18 ≡ 18 - l + l = omega arith in
    ap (λ (k : ℕ). d * 10 ^ k) s ∙ ap (λ (x : ℕ). d * x) (pow-add 10 (18 - l) l) ∙ sym (mul_assoc d (10 ^ (18 - l)) (10 ^ l))

units_by : (n top l k : ℕ) → n < 10 ^ 38 → top ≡ n * 10 ^ l → k ≡ l → whole_units top (10 ^ k) ≡ Some n
units_by n top l k lt e s = rw (e, s, mul-mod_left n (10 ^ l), mul-div_cancel n (ten_positive l), lt-ltb n (10 ^ 38) lt) refl

magnitude_is : (n : ℕ) → n < 10 ^ 38 → magnitude (decimal (n / 10 ^ 18)) (places_text 18 (n % 10 ^ 18)) false [] ≡ Some n
magnitude_is n lt =
    let w = n / 10 ^ 18 in
    let r = n % 10 ^ 18 in
    let f = places_text 18 r in
    let t = decimal_text w (omega arith) in
    let p = places_are 18 w r (omega arith) in
    let value : digits_value (decimal w ++ f) ≡ digits_from w f =
    fold-append (λ k b. k * 10 + (b - 48)) 0 (decimal w) f ∙ ap (λ (k : ℕ). digits_from k f) t.value in
    let n_is : w * 10 ^ 18 + r ≡ n = omega arith in
    let top : digits_value (decimal w ++ f) * 10 ^ 18 ≡ n * 10 ^ length f =
    ap (λ (v : ℕ). v * 10 ^ 18) value ∙ scaled_up (digits_from w f) (length f) p.short ∙
    ap (λ (v : ℕ). v * 10 ^ length f) (p.value ∙ n_is) in
    units_by n (digits_value (decimal w ++ f) * 10 ^ 18) (length f) (length f + 0) lt top (omega arith)

number_is : (minus : Bool) (n : ℕ) → n < 10 ^ 38 → IsNumber (cond minus (45 ∷ []) [] ++ magnitude_text n) (Some (signed minus n))
number_is minus n lt =
    let w = n / 10 ^ 18 in
    let r = n % 10 ^ 18 in
    let t = decimal_text w (omega arith) in
    let p = places_are 18 w r (omega arith) in
    let l : Literal = record {
      minus = minus;
      whole = decimal w;
      fraction = places_text 18 r;
      letter = 101;
      sign = [];
      exponent = [];
    } in
    let ok : IsLiteral l = record { whole = t.int; fraction = p.digits; letter = refl; sign = refl; exponent = refl } in (
      l,
      ok,
      ap (λ (x : List ℕ). cond minus (45 ∷ []) [] ++ (decimal w ++ x)) (point_is r) ∙
          regroup (cond minus (45 ∷ []) []) (decimal w) (fraction_text (places_text 18 r)),
      ap
          (λ (o : Option ℕ). with_sign minus o) (sym (magnitude_is n lt)),
    )
  where
    regroup : (a b c : List ℕ) → a ++ (b ++ c) ≡ a ++ b ++ c ++ []
    regroup a b c = simp (append_assoc, append-nil)

-- a decimal is spelled as its text
pub units_is : (units : ℤ) → is_decimal units ≡ true → IsNumber (units_text units) (Some units)
units_is (pos n) h =
    let lt : n < 10 ^ 38 = ltb-true n (10 ^ 38) (second (int_lt (negsuc (10 ^ 38 - 1)) (pos n)) (ltb n (10 ^ 38)) h) in
    let no : int_lt (pos n) (pos 0) ≡ false = le-ltb n 0 (omega arith) in
    rw no (number_is false n lt)
  where
    second : (a b : Bool) → (a && b) ≡ true → b ≡ true
    second true b h = h
    second false b h = absurd cc
units_is (negsuc n) h =
    let lt : n < 10 ^ 38 - 1 = ltb-true n (10 ^ 38 - 1) (first (ltb n (10 ^ 38 - 1)) (int_lt (negsuc n) (pos (10 ^ 38))) h) in
    number_is true (suc n) (omega arith)
  where
    first : (a b : Bool) → (a && b) ≡ true → a ≡ true
    first true b h = refl
    first false b h = absurd cc
