-- A number in its shortest form is read again, and what is read was spelled so.
use Rattle.std.proofs.Common.{◌≡◌, ℕ, zero, suc, ◌+◌, ◌-◌, ◌*◌, ◌/◌, ◌%◌, ◌^◌, ◌<◌, ◌≤◌, Bool, true, false, cond}
use Rattle.std.proofs.Common.{nat_lt, ◌==◌}
use Rattle.std.proofs.Common.{List, [], ◌∷◌, ◌++◌, get_or, Option, Some, None, refl, sym, ap, ◌∙◌, inl, inr, arith}
use Rattle.std.proofs.Math.Nat.{one-le-pow, pow-le-pow_right, pow-suc}
use Rattle.std.proofs.lemmas.Option.{some_pair_parts}
use Rattle.std.proofs.lemmas.Bool.{cases_lt, eqb-false, le-ltb, lt-ltb, ne_eqb}
use Rattle.post_lists.specs.Numbers.{digits_at, joined}
use Rattle.post_lists.specs.Postings.{digits}

abbrev pub IsBytes : List ℕ → Type 0
IsBytes bytes = (i : ℕ) → get_or bytes i 0 < 256

-- ---- powers

pub pow_step : (most : ℕ) → 0 < most → 128 ^ most ≡ 128 ^ (most - 1) * 128
pow_step most some =
    let e : most ≡ suc (most - 1) = omega arith in
    ap (λ (n : ℕ). 128 ^ n) e ∙ pow-suc 128 (most - 1)

pub pow_some : (k : ℕ) → 1 ≤ 128 ^ k
pow_some k = one-le-pow k 128 (omega arith)

pub pow_few : (most : ℕ) → most ≤ 5 → 128 ^ (most - 1) ≤ 128 ^ 4
pow_few most few = pow-le-pow_right {n = 128} (omega arith) {i = most - 1} {j = 4} (omega (arith, few))

-- there is room for the rest of a number
pub room : (most n : ℕ) → 1 ≤ most → 128 ≤ n → n < 128 ^ most → (1 ≤ most - 1) × (n / 128 < 128 ^ (most - 1))
room most n some large below =
    let rest : n / 128 < 128 ^ (most - 1) = omega (arith, below, pow_step most some) in
    elim (cases_lt 1 most) [
      | inl more ↦ (omega (arith, more), rest)
      | inr last ↦
          let one : most ≡ 1 = omega (arith, some, last) in
          let same : 128 ^ most ≡ 128 = ap (λ (k : ℕ). 128 ^ k) one in
          absurd (omega (arith, large, below, same))
    ]

-- ---- as code writes them

digits_last_at : (k n : ℕ) → n < 128 → digits (suc k) n ≡ n ∷ []
unfolding digits
digits_last_at k n lt = let small : nat_lt n 128 ≡ true = lt-ltb n 128 lt in rw small refl

digits_more_at : (k n : ℕ) → 128 ≤ n → digits (suc k) n ≡ (128 + n % 128) ∷ digits k (n / 128)
unfolding digits
digits_more_at k n le = let large : nat_lt n 128 ≡ false = le-ltb n 128 le in rw large refl

pub digits_last : (most n : ℕ) → 1 ≤ most → n < 128 → digits most n ≡ n ∷ []
digits_last most n some lt =
    let e : most ≡ suc (most - 1) = omega arith in
    ap (λ (m : ℕ). digits m n) e ∙ digits_last_at (most - 1) n lt

pub digits_more : (most n : ℕ) → 1 ≤ most → 128 ≤ n → digits most n ≡ (128 + n % 128) ∷ digits (most - 1) (n / 128)
digits_more most n some le =
    let e : most ≡ suc (most - 1) = omega arith in
    ap (λ (m : ℕ). digits m n) e ∙ digits_more_at (most - 1) n le

-- ---- read again

abbrev some_pair : ℕ → List ℕ → Option (ℕ × List ℕ)
some_pair n rest = Some (n, rest)

same_pair : (m n : ℕ) (rest : List ℕ) → m ≡ n → some_pair m rest ≡ some_pair n rest
same_pair m n rest e = ap (λ (k : ℕ). some_pair k rest) e

one_byte : (k low : ℕ) (rest : List ℕ) → low < 128 → digits_at (suc k) (low ∷ rest) ≡ Some (low, rest)
unfolding digits_at
one_byte k low rest lt = let small : nat_lt low 128 ≡ true = lt-ltb low 128 lt in rw small refl

more_bytes : (k low : ℕ) (rest : List ℕ) → 128 ≤ low → digits_at (suc k) (low ∷ rest) ≡ joined low (digits_at k rest)
unfolding digits_at
more_bytes k low rest le = let large : nat_lt low 128 ≡ false = le-ltb low 128 le in rw large refl

joined_some : (low high : ℕ) (rest : List ℕ) → 0 < high
    → joined low (some_pair high rest) ≡ Some (low % 128 + 128 * high, rest)
joined_some low high rest some =
    let there : (high == 0) ≡ false = ne_eqb high 0 (λ e. omega arith) in
    rw there refl

pub digits_again : (k n : ℕ) (rest : List ℕ) → n < 128 ^ k → 1 ≤ k → digits_at k (digits k n ++ rest) ≡ Some (n, rest)
digits_again zero n rest below some = absurd (omega arith)
digits_again (suc k) n rest below some =
    elim (cases_lt n 128) [
      | inl lt ↦ ap (λ (bytes : List ℕ). digits_at (suc k) (bytes ++ rest)) (digits_last_at k n lt)
          ∙ one_byte k n rest lt
      | inr le ↦
          let more : (1 ≤ suc k - 1) × (n / 128 < 128 ^ (suc k - 1)) = room (suc k) n (omega arith) le below in
          let e : suc k - 1 ≡ k = omega arith in
          let few : n / 128 < 128 ^ k = rw e at more.1 in
          let high : digits_at k (digits k (n / 128) ++ rest) ≡ some_pair (n / 128) rest =
          digits_again k (n / 128) rest few (omega (arith, more.0)) in
          ap (λ (bytes : List ℕ). digits_at (suc k) (bytes ++ rest)) (digits_more_at k n le)
          ∙ more_bytes k (128 + n % 128) (digits k (n / 128) ++ rest) (omega arith)
          ∙ ap (joined (128 + n % 128)) high
          ∙ joined_some (128 + n % 128) (n / 128) rest (omega arith)
          ∙ same_pair ((128 + n % 128) % 128 + 128 * (n / 128)) n rest (omega arith)
    ]

-- ---- and found

pair_number : (m n : ℕ) (xs ys : List ℕ) → some_pair m xs ≡ some_pair n ys → (m ≡ n) × (xs ≡ ys)
pair_number m n xs ys e = some_pair_parts m n xs ys e

joined_is : (low : ℕ) (r : Option (ℕ × List ℕ)) (n : ℕ) (rest : List ℕ) → joined low r ≡ some_pair n rest
    → (high : ℕ) × (r ≡ some_pair high rest) × (0 < high) × (n ≡ low % 128 + 128 * high)
joined_is low None n rest e = absurd cc
joined_is low (Some high) n rest e = go (high.0 == 0) refl e
  where
    go : (b : Bool) → (high.0 == 0) ≡ b → cond b None (some_pair (low % 128 + 128 * high.0) high.1) ≡ some_pair n rest
        → (h : ℕ) × (some_pair high.0 high.1 ≡ some_pair h rest) × (0 < h) × (n ≡ low % 128 + 128 * h)
    go true t e = absurd cc
    go false t e =
        let p = pair_number (low % 128 + 128 * high.0) n high.1 rest e in
        let none : high.0 ≡ 0 → ⊥ = eqb-false high.0 0 t in
        (high.0, ap (some_pair high.0) p.1, omega (arith, none), sym p.0)

pub digits_found : (k : ℕ) (bytes : List ℕ) (n : ℕ) (rest : List ℕ) → IsBytes bytes
    → digits_at k bytes ≡ some_pair n rest → bytes ≡ digits k n ++ rest
unfolding digits_at
digits_found zero bytes n rest fits e = absurd cc
digits_found (suc k) [] n rest fits e = absurd cc
digits_found (suc k) (low ∷ more) n rest fits e =
    elim (cases_lt low 128) [
      | inl lt ↦
          let p = pair_number low n more rest (sym (one_byte k low more lt) ∙ e) in
          ap (λ (bytes : List ℕ). low ∷ bytes) p.1
          ∙ ap (λ (bytes : List ℕ). bytes ++ rest) (sym (digits_last_at k low lt))
          ∙ ap (λ (m : ℕ). digits (suc k) m ++ rest) p.0
      | inr le ↦
          let h = joined_is low (digits_at k more) n rest (sym (more_bytes k low more le) ∙ e) in
          let behind : more ≡ digits k h.0 ++ rest = digits_found k more h.0 rest (λ i. fits (suc i)) h.1 in
          let byte : low < 256 = fits 0 in
          let large : 128 ≤ n = omega (arith, h.2, h.3) in
          let same_low : low ≡ 128 + n % 128 = omega (arith, h.3, byte, le) in
          let same_high : h.0 ≡ n / 128 = omega (arith, h.3) in
          ap (λ (bytes : List ℕ). low ∷ bytes) behind
          ∙ ap (λ (b : ℕ). b ∷ (digits k h.0 ++ rest)) same_low
          ∙ ap (λ (m : ℕ). (128 + n % 128) ∷ (digits k m ++ rest)) same_high
          ∙ ap (λ (bytes : List ℕ). bytes ++ rest) (sym (digits_more_at k n large))
    ]
