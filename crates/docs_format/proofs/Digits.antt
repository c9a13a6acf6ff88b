-- A number in some bytes: the bytes say the number, and the number the bytes.
use Rattle.std.proofs.Common.{◌≡◌, ℕ, zero, suc, ◌+◌, ◌*◌, ◌^◌, ◌/◌, ◌<◌, List, [], ◌∷◌, length, get_or, take, drop}
use Rattle.std.proofs.Common.{refl, sym, ap, ◌∙◌, arith, inl, inr}
use Rattle.std.specs.Int.{byte_at, bytes_high_first}
use Rattle.std.proofs.lemmas.Bool.{cases_lt}
use Rattle.std.proofs.lemmas.List.{append-nil, get_or-drop, get_or-take, get_or_past, length-take}
use Rattle.std.proofs.lemmas.Nat.{div-mul-add}
use Rattle.std.proofs.Math.Nat.{mod-lt}
use Rattle.byteorder.specs.Endian.{big_number, big_bytes}
use Rattle.byteorder.specs.Numbers.{big_from-cons, big_from-lt, big_number-reads_back, length-bytes_high_first}

abbrev pub IsBytes : List ℕ → Type 0
IsBytes bytes = (i : ℕ) → get_or bytes i 0 < 256

pub IsBytes-drop : (n : ℕ) (bytes : List ℕ) → IsBytes bytes → IsBytes (drop n bytes)
IsBytes-drop n bytes h i = rw get_or-drop (h (n + i))

pub IsBytes-take : (n : ℕ) (bytes : List ℕ) → IsBytes bytes → IsBytes (take n bytes)
IsBytes-take n bytes h i =
    elim (cases_lt i n) [
      | inl lt ↦ rw (get_or-take n bytes i 0 lt) (h i)
      | inr le ↦ rw (get_or_past (take n bytes) i 0 (omega (arith, length-take n bytes))) (omega arith)
    ]

byte_fits : (k x : ℕ) → byte_at k x < 256
byte_fits zero x = mod-lt x (omega arith)
byte_fits (suc k) x = mod-lt (x / 256 ^ suc k) (omega arith)

bytes_fit : (n x : ℕ) → IsBytes (bytes_high_first n x)
bytes_fit zero x i = omega arith
bytes_fit (suc n) x zero = byte_fits n x
bytes_fit (suc n) x (suc i) = bytes_fit n x i

-- bytes that say the same number are the same
same_bytes : (n : ℕ) (xs ys : List ℕ) → length xs ≡ n → length ys ≡ n → IsBytes xs → IsBytes ys
    → big_number n xs ≡ big_number n ys → xs ≡ ys
same_bytes zero [] [] k l p q e = refl
same_bytes zero (x ∷ xs) ys k l p q e = absurd (omega arith)
same_bytes zero [] (y ∷ ys) k l p q e = absurd (omega arith)
same_bytes (suc n) [] ys k l p q e = absurd (omega arith)
same_bytes (suc n) (x ∷ xs) [] k l p q e = absurd (omega arith)
same_bytes (suc n) (x ∷ xs) (y ∷ ys) k l p q e =
    let low_x : big_number n xs < 256 ^ n = big_from-lt 0 n xs (λ i. p (suc i)) in
    let low_y : big_number n ys < 256 ^ n = big_from-lt 0 n ys (λ i. q (suc i)) in
    let both : x * 256 ^ n + big_number n xs ≡ y * 256 ^ n + big_number n ys =
    sym (ap (λ (r : ℕ). x * 256 ^ n + r) (big_from-cons 0 n x xs)) ∙ e
    ∙ ap (λ (r : ℕ). y * 256 ^ n + r) (big_from-cons 0 n y ys) in
    let high : x ≡ y =
    sym (div-mul-add x (256 ^ n) (big_number n xs) low_x) ∙ ap (λ (v : ℕ). v / 256 ^ n) both
    ∙ div-mul-add y (256 ^ n) (big_number n ys) low_y in
    let scaled : x * 256 ^ n ≡ y * 256 ^ n = ap (λ (v : ℕ). v * 256 ^ n) high in
    let rest : xs ≡ ys =
    same_bytes n xs ys (omega arith) (omega arith) (λ i. p (suc i)) (λ i. q (suc i)) (omega (arith, both, scaled)) in
    cc (high, rest)

pub digits_back : (n : ℕ) (bytes : List ℕ) → length bytes ≡ n → IsBytes bytes → big_bytes n (big_number n bytes) ≡ bytes
digits_back n bytes len fits =
    let v : ℕ = big_number n bytes in
    same_bytes n (big_bytes n v) bytes (length-bytes_high_first n v) len (bytes_fit n v) fits
    (ap (big_number n) (sym (append-nil (big_bytes n v))) ∙ big_number-reads_back n v [] (big_from-lt 0 n bytes fits))
