-- What digits are worth, by the number without the zeros at its end.
use Rattle.std.proofs.Common.{◌≡◌, ◌≢◌, ℕ, zero, suc, ◌+◌, ◌-◌, ◌*◌, ◌/◌, ◌%◌, ◌^◌, ◌<◌, ◌≤◌, ◌⊎◌, Bool, true, false, cond, ltb, ◌==◌, List, ◌++◌, length, Option, Some, None, refl, sym, ap, subst, ◌∙◌, arith, inl, inr, min, add-zero}
use Rattle.std.proofs.lemmas.Nat.{pow-add, mod-mul-add}
use Rattle.std.proofs.lemmas.Bool.{cases_lt, le-ltb, lt-ltb, eqb-true}
use Rattle.std.proofs.Math.Nat.{mul-mod_left, mul_assoc, mul-le-mul_left, mul-div_cancel, mod-eq-sub-div-mul, div-mul-le_self, zero-mul}
use Rattle.std.proofs.lemmas.List.Sums.{fold-append}
use Rattle.std.specs.Prelude.{IsTrue}
use Rattle.json_text.specs.Numbers.{is_digit, digits_from, digits_value, whole_units, magnitude}
use Rattle.json_text.specs.Mantissas.{scaled, shifted, Denotes, EndsInNoZero}

-- one zero more
ten_more : (v z : ℕ) → v * 10 ^ (z + 1) ≡ v * 10 ^ z * 10
ten_more v z = rw (pow-add 10 z 1) (sym (mul_assoc v (10 ^ z) 10))

pub zero_digit : (over : Bool) (v z n : ℕ) → Denotes over v z n → Denotes over v (z + 1) (n * 10 + 0)
zero_digit false v z n h = (omega (arith, h.0, ten_more v z), h.1, h.2)
zero_digit true v z n h = (h.0, h.1 + 1, omega (arith, h.2, ten_more h.0 h.1), h.3, h.4)

pow_positive : (z : ℕ) → 1 ≤ 10 ^ z
pow_positive zero = omega arith
pow_positive (suc z) = let s : suc z ≡ z + 1 = omega arith in let e : 10 ^ suc z ≡ 10 ^ z * 10 =
    ap (λ (k : ℕ). 10 ^ k) s ∙ pow-add 10 z 1 in omega (arith, pow_positive z, e)

at_least : (m z : ℕ) → m ≤ m * 10 ^ z
at_least m z = let h = mul-le-mul_left m (pow_positive z) in omega (arith, h)

-- a last digit that isn't 0
ends_in : (n d : ℕ) → d < 10 → d ≢ 0 → EndsInNoZero (n * 10 + d)
ends_in n d lt ne e = absurd (ne (sym (mod-mul-add n 10 d lt) ∙ e))

below : (x limit w : ℕ) → cond (ltb x limit) (Some x) None ≡ Some w → (x ≡ w) × (w < limit)
below x limit w e =
    elim (cases_lt x limit) [
      | inl lt ↦ let f = rw (lt-ltb x limit lt) at e in let g : x ≡ w = cc in (g, omega (arith, lt, g))
      | inr le ↦ let f = rw (le-ltb x limit le) at e in absurd cc
    ]

above : (x limit : ℕ) → cond (ltb x limit) (Some x) None ≡ None → limit ≤ x
above x limit e =
    elim (cases_lt x limit) [
      | inl lt ↦ let f = rw (lt-ltb x limit lt) at e in absurd cc
      | inr le ↦ le
    ]

pub other_digit : (v z n d w : ℕ) → Denotes false v z n → d < 10 → d ≢ 0 → scaled v (z + 1) ≡ Some w →
    Denotes false (w + d) 0 (n * 10 + d)
other_digit v z n d w h lt ne e =
    let p = below (v * 10 ^ (z + 1)) (10 ^ 38) w e in
    let same : w + d ≡ n * 10 + d = omega (arith, p.0, h.0, ten_more v z) in
    (omega (arith, same), omega (arith, same, p.1, lt), subst EndsInNoZero (sym same) (ends_in n d lt ne))

pub too_long : (over : Bool) (v z n d x : ℕ) → Denotes over v z n → d < 10 → d ≢ 0 → ((over ≡ true) ⊎ (scaled v (z + 1) ≡ None)) →
    Denotes true x 0 (n * 10 + d)
too_long true v z n d x h lt ne e = (n * 10 + d, 0, omega arith, omega (arith, h.2, h.3, at_least h.0 h.1), ends_in n d lt ne)
too_long false v z n d x h lt ne (inl e) = absurd cc
too_long false v z n d x h lt ne (inr e) = (
  n * 10 + d,
  0,
  omega arith,
  omega (arith, h.0, ten_more v z, above (v * 10 ^ (z + 1)) (10 ^ 38) e),
  ends_in n d lt ne,
)

-- ---- a count of units

-- x times y, parted by y
parted : (x y : ℕ) → 0 < y → whole_units (x * y) y ≡ cond (ltb x (10 ^ 38)) (Some x) None
parted x y lt = rw (mul-mod_left x y, mul-div_cancel x lt) refl

moved : (m z a : ℕ) → m * 10 ^ z * 10 ^ a ≡ m * 10 ^ (z + a)
moved m z a = mul_assoc m (10 ^ z) (10 ^ a) ∙ ap (λ p. m * p) (sym (pow-add 10 z a))

pub whole_of : (m z a b k : ℕ) → z + a ≡ k + b → whole_units (m * 10 ^ z * 10 ^ a) (10 ^ b) ≡ scaled m k
whole_of m z a b k e =
    ap (λ t. whole_units t (10 ^ b)) (moved m z a ∙ ap (λ t. m * 10 ^ t) e ∙ sym (moved m k b))
    ∙ parted (m * 10 ^ k) (10 ^ b) (pow_positive b)

too_much : (m k : ℕ) → 10 ^ 38 ≤ m → scaled m k ≡ None
too_much m k le = rw (le-ltb (m * 10 ^ k) (10 ^ 38) (omega (arith, le, at_least m k))) refl

-- ---- what the steps make

pub digit_zero : (over : Bool) (v z n d : ℕ) → d ≡ 48 → Denotes over v z n → Denotes over v (z + 1) (n * 10 + (d - 48))
digit_zero over v z n d e h = let z0 : d - 48 ≡ 0 =
    omega arith in subst (λ (k : ℕ). Denotes over v (z + 1) (n * 10 + k)) (sym z0) (zero_digit over v z n h)

is_below_ten : (d : ℕ) → IsTrue (is_digit d) → d - 48 < 10
is_below_ten d h = grind arith

is_not_zero : (d : ℕ) → IsTrue (is_digit d) → d ≢ 48 → d - 48 ≢ 0
is_not_zero d h ne e = grind arith

pub digit_kept : (over : Bool) (v z n d w x : ℕ) → over ≡ false → IsTrue (is_digit d) → d ≢ 48 →
    Some w ≡ scaled v (z + 1) → x ≡ d - 48 →
    Denotes over v z n → Denotes over (w + x) 0 (n * 10 + (d - 48))
digit_kept true v z n d w x o h ne e x-is s = absurd cc
digit_kept false v z n d w x o h ne e x-is s = subst (λ (y : ℕ). Denotes false (w + y) 0 (n * 10 + (d - 48)))
    (sym x-is) (other_digit v z n (d - 48) w s (is_below_ten d h) (is_not_zero d h ne) (sym e))

pub digit_over : (over : Bool) (v z n d x : ℕ) → over ≡ true → IsTrue (is_digit d) → d ≢ 48 → Denotes over v z n →
    Denotes true x 0 (n * 10 + (d - 48))
digit_over over v z n d x o h ne s = too_long over v z n (d - 48) x s (is_below_ten d h) (is_not_zero d h ne) (inl o)

pub digit_long : (over : Bool) (v z n d x : ℕ) → None ≡ scaled v (z + 1) → IsTrue (is_digit d) → d ≢ 48 → Denotes over v z n →
    Denotes true x 0 (n * 10 + (d - 48))
digit_long over v z n d x e h ne s = too_long over v z n (d - 48) x s (is_below_ten d h) (is_not_zero d h ne) (inr (sym e))

pub pow_fits : (z : ℕ) → z ≤ 38 → 10 ^ z < 340282366920938463463374607431768211456
pow_fits z le =
    let s : 38 ≡ z + (38 - z) = omega arith in
    let e : 10 ^ 38 ≡ 10 ^ z * 10 ^ (38 - z) = ap (λ (k : ℕ). 10 ^ k) s ∙ pow-add 10 z (38 - z) in
    omega (arith, e, at_least (10 ^ z) (38 - z))

-- a number from 1 on with more than 38 zeros
pub no_room : (v z : ℕ) → v ≢ 0 → 38 < z → scaled v z ≡ None
no_room v z ne lt =
    let s : z ≡ 38 + (z - 38) = omega arith in
    let e : 10 ^ z ≡ 10 ^ 38 * 10 ^ (z - 38) = ap (λ (k : ℕ). 10 ^ k) s ∙ pow-add 10 38 (z - 38) in
    let one : 1 ≤ v = omega arith in
    let h = mul-le-mul_left (10 ^ z) one in
    rw (le-ltb (v * 10 ^ z) (10 ^ 38) (omega (arith, e, at_least (10 ^ 38) (z - 38), h))) refl

-- ---- raised and lowered

not_whole : (top bottom : ℕ) (b : Bool) → (top % bottom == 0) ≡ b → (top % bottom ≡ 0 → ⊥) → whole_units top bottom ≡ None
not_whole top bottom true e never = absurd (never (eqb-true (top % bottom) 0 e))
not_whole top bottom false e never = rw e refl

divided : (top bottom : ℕ) → top % bottom ≡ 0 → top ≡ top / bottom * bottom
divided top bottom e = omega (arith, e, mod-eq-sub-div-mul top bottom, div-mul-le_self top bottom)

same_factor : (x y p : ℕ) → 0 < p → x * p ≡ y * p → x ≡ y
same_factor x y p lt e = sym (mul-div_cancel x lt) ∙ ap (λ (t : ℕ). t / p) e ∙ mul-div_cancel y lt

never_whole : (m t k : ℕ) → EndsInNoZero m → m ≢ 0 → m * 10 ^ t % 10 ^ (t + suc k) ≡ 0 → ⊥
never_whole m t k ends ne h =
    let q = m * 10 ^ t / 10 ^ (t + suc k) in
    let s : t + suc k ≡ k + 1 + t = omega arith in
    let spread : 10 ^ (t + suc k) ≡ 10 ^ k * 10 * 10 ^ t =
    ap (λ (x : ℕ). 10 ^ x) s ∙ pow-add 10 (k + 1) t ∙ ap (λ (x : ℕ). x * 10 ^ t) (pow-add 10 k 1) in
    let e : m * 10 ^ t ≡ q * (10 ^ k * 10) * 10 ^ t = divided (m * 10 ^ t) (10 ^ (t + suc k)) h ∙
    ap (λ (x : ℕ). q * x) spread ∙ sym (mul_assoc q (10 ^ k * 10) (10 ^ t)) in
    let f : m ≡ q * 10 ^ k * 10 = same_factor m (q * (10 ^ k * 10)) (10 ^ t) (pow_positive t) e ∙ sym (mul_assoc q (10 ^ k) 10) in
    ne (ends (ap (λ (x : ℕ). x % 10) f ∙ mul-mod_left (q * 10 ^ k) 10))

none_of : (m z a b k : ℕ) → EndsInNoZero m → m ≢ 0 → b ≡ z + a + suc k → whole_units (m * 10 ^ z * 10 ^ a) (10 ^ b) ≡ None
none_of m z a b k ends ne e =
    ap (λ (t : ℕ). whole_units t (10 ^ b)) (moved m z a)
    ∙ ap (λ (x : ℕ). whole_units (m * 10 ^ (z + a)) (10 ^ x)) e
    ∙ not_whole (m * 10 ^ (z + a)) (10 ^ (z + a + suc k)) (m * 10 ^ (z + a) % 10 ^ (z + a + suc k) == 0) refl
    (never_whole m (z + a) k ends ne)

over_shifted : (m k a b : ℕ) → 10 ^ 38 ≤ m → EndsInNoZero m → whole_units (m * 10 ^ k * 10 ^ a) (10 ^ b) ≡ None
over_shifted m k a b le ends =
    elim (cases_lt (k + a) b) [
      | inl lt ↦ none_of m k a b (b - (k + a) - 1) ends (λ e. omega (arith, e, le)) (omega arith)
      | inr ge ↦ whole_of m k a b (k + a - b) (omega arith) ∙ too_much m (k + a - b) le
    ]

choose : (t u low : Bool) (x : Option ℕ) → t ≡ false → u ≡ low → cond t (Some 0) (cond u None x) ≡ cond low None x
choose true u low x e f = absurd cc
choose false u low x e f = ap (λ (b : Bool). cond b None x) f

not_zero : (v : ℕ) → (suc v == 0) ≡ false
not_zero v = grind arith

-- a number from 1 on, by whether it is lowered further than it can be
by_room : (v z a b : ℕ) (low : Bool) → ltb (z + a) b ≡ low →
    shifted false (suc v) z a b ≡ cond low None (scaled (suc v) (z + a - b))
by_room v z a b low e = choose (suc v == 0) (ltb (z + a) b) low (scaled (suc v) (z + a - b)) (not_zero v) e

kept_shifted : (v z a b : ℕ) → EndsInNoZero v → whole_units (v * 10 ^ z * 10 ^ a) (10 ^ b) ≡ shifted false v z a b
kept_shifted zero z a b ends = ap (λ (t : ℕ). whole_units t (10 ^ b))
    (omega (
      arith,
      zero-mul (10 ^ z),
      zero-mul (10 ^ a),
      ap (λ (t : ℕ). t * 10 ^ a) (zero-mul (10 ^ z)),
      zero-mul (10 ^ b),
    )) ∙ parted 0 (10 ^ b) (pow_positive b)
kept_shifted (suc v) z a b ends =
    elim (cases_lt (z + a) b) [
      | inl lt ↦ none_of (suc v) z a b (b - (z + a) - 1) ends (λ e. omega (arith, e)) (omega arith) ∙
          sym (by_room v z a b true (lt-ltb (z + a) b lt))
      | inr ge ↦ whole_of (suc v) z a b (z + a - b) (omega arith) ∙ sym (by_room v z a b false (le-ltb (z + a) b ge))
    ]

pub is_shifted : (over : Bool) (v z n a b : ℕ) → Denotes over v z n → whole_units (n * 10 ^ a) (10 ^ b) ≡ shifted over v z a b
is_shifted true v z n a b h = ap (λ (t : ℕ). whole_units (t * 10 ^ a) (10 ^ b)) h.2 ∙ over_shifted h.0 h.1 a b h.3 h.4
is_shifted false v z n a b h = ap (λ (t : ℕ). whole_units (t * 10 ^ a) (10 ^ b)) h.0 ∙ kept_shifted v z a b h.2

-- out of reach: nothing but 0
abbrev out_of_reach : Bool → ℕ → Option ℕ
out_of_reach over v = cond over None (cond (v == 0) (Some 0) None)

reach_of : (v : ℕ) → out_of_reach false (suc v) ≡ None
reach_of v = ap (λ (t : Bool). cond t (Some 0) None) (not_zero v)

far_above : (over : Bool) (v z a b : ℕ) → b + 39 ≤ z + a → shifted over v z a b ≡ out_of_reach over v
far_above true v z a b le = refl
far_above false zero z a b le = refl
far_above false (suc v) z a b le = by_room v z a b false (le-ltb (z + a) b (omega arith)) ∙
    no_room (suc v) (z + a - b) (λ e. omega (arith, e)) (omega arith) ∙ sym (reach_of v)

far_below : (over : Bool) (v z a b : ℕ) → z + a < b → shifted over v z a b ≡ out_of_reach over v
far_below true v z a b lt = refl
far_below false zero z a b lt = refl
far_below false (suc v) z a b lt = by_room v z a b true (lt-ltb (z + a) b lt) ∙ sym (reach_of v)

cap_up : (over : Bool) (v z e c b : ℕ) → c ≡ min e (10 ^ 24) → b < 2 ^ 64 →
    shifted over v z (18 + c) b ≡ shifted over v z (18 + e) b
cap_up over v z e c b c-is lt =
    elim (cases_lt e (10 ^ 24)) [
      | inl small ↦ let same : c ≡ e = omega arith in ap (λ (x : ℕ). shifted over v z (18 + x) b) same
      | inr large ↦ far_above over v z (18 + c) b (omega arith) ∙ sym (far_above over v z (18 + e) b (omega arith))
    ]

cap_down : (over : Bool) (v z e c b : ℕ) → c ≡ min e (10 ^ 24) → z < 2 ^ 66 →
    shifted over v z 18 (b + c) ≡ shifted over v z 18 (b + e)
cap_down over v z e c b c-is lt =
    elim (cases_lt e (10 ^ 24)) [
      | inl small ↦ let same : c ≡ e = omega arith in ap (λ (x : ℕ). shifted over v z 18 (b + x)) same
      | inr large ↦ far_below over v z 18 (b + c) (omega arith) ∙ sym (far_below over v z 18 (b + e) (omega arith))
    ]

all_digits : (whole fraction : List ℕ) → digits_value (whole ++ fraction) ≡ digits_from (digits_from 0 whole) fraction
all_digits whole fraction = fold-append (λ k b. k * 10 + (b - 0x30)) 0 whole fraction

pub magnitude_down : (whole fraction exponent : List ℕ) (over : Bool) (v z c : ℕ) →
    Denotes over v z (digits_from (digits_from 0 whole) fraction) →
    z < 2 ^ 66 → c ≡ min (digits_value exponent) (10 ^ 24) → shifted over v z 18 (length fraction + c) ≡ magnitude
    whole fraction true exponent
magnitude_down whole fraction exponent over v z c h lt c-is =
    cap_down over v z (digits_value exponent) c (length fraction) c-is lt
    ∙ sym (is_shifted over v z (digits_from (digits_from 0 whole) fraction) 18 (length fraction + digits_value exponent) h)
    ∙ ap (λ (n : ℕ). whole_units (n * 10 ^ 18) (10 ^ (length fraction + digits_value exponent))) (sym (all_digits whole fraction))

pub magnitude_up : (whole fraction exponent : List ℕ) (over : Bool) (v z c : ℕ) →
    Denotes over v z (digits_from (digits_from 0 whole) fraction) →
    length fraction < 2 ^ 64 → c ≡ min (digits_value exponent) (10 ^ 24) →
    shifted over v z (18 + c) (length fraction) ≡ magnitude whole fraction false exponent
magnitude_up whole fraction exponent over v z c h lt c-is =
    cap_up over v z (digits_value exponent) c (length fraction) c-is lt
    ∙ sym (is_shifted over v z (digits_from (digits_from 0 whole) fraction) (18 + digits_value exponent) (length fraction) h)
    ∙ ap (λ (n : ℕ). whole_units (n * 10 ^ (18 + digits_value exponent)) (10 ^ length fraction)) (sym (all_digits whole fraction))
    ∙ ap (λ (b : ℕ). whole_units (digits_value (whole ++ fraction) * 10 ^ (18 + digits_value exponent)) (10 ^ b))
    (sym (add-zero (length fraction)))

-- no digits yet
pub stands_first : Denotes false 0 0 0
stands_first = (refl, omega arith, λ e. refl)
