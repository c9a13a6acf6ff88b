-- Items that are passed because they are below a number.
use Rattle.std.proofs.Common.{◌≡◌, ℕ, zero, suc, ◌+◌, ◌<◌, ◌≤◌, true, false, nat_le, List, [], ◌∷◌}
use Rattle.std.proofs.Common.{length, take, drop, refl, sym, ap, ◌∙◌, arith}
use Rattle.std.specs.List.{filter}
use Rattle.std.specs.List.Sorted.{IsStrictlyIncreasing}
use Rattle.std.proofs.lemmas.Bool.{le-leb, lt-leb, ltb-false}
use Rattle.post_lists.specs.Keeping.{IsAt}
use Rattle.post_lists.specs.Numbers.{last_of}
use Rattle.post_lists.specs.Sets.{starts_below}
use Rattle.post_lists.proofs.Rising.{Above, above, above_weaker, increasing}

pub filter_below : (least x : ℕ) (xs : List ℕ) → x < least → filter (nat_le least) (x ∷ xs) ≡ filter (nat_le least) xs
filter_below least x xs lt = let no : nat_le least x ≡ false = lt-leb least x lt in rw no refl

pub filter_from : (least n : ℕ) (xs : List ℕ) → least ≤ n → Above n xs → filter (nat_le least) xs ≡ xs
filter_from least n [] le a = refl
filter_from least n (x ∷ xs) le a =
    let yes : nat_le least x ≡ true = le-leb least x (omega (arith, a.0)) in
    rw yes (ap (λ (ys : List ℕ). x ∷ ys) (filter_from least (x + 1) xs (omega (arith, a.0)) a.1))

last_take : (l n q : ℕ) (xs : List ℕ) → l ≤ n → Above n xs → l ≤ last_of l (take q xs)
last_take l n zero xs le a = omega arith
last_take l n (suc q) [] le a = omega arith
last_take l n (suc q) (y ∷ ys) le a = omega (arith, a.0, last_take y (y + 1) q ys (omega arith) a.1)

-- the items up to number q are below the number, if the last of them is
jumps_from : (least l n : ℕ) (xs : List ℕ) (p q : ℕ) → l ≤ n → Above n xs → p ≤ q → q ≤ length xs
    → last_of l (take q xs) < least → filter (nat_le least) (drop q xs) ≡ filter (nat_le least) (drop p xs)
jumps_from least l n xs zero zero le a order within below = refl
jumps_from least l n xs (suc p) zero le a order within below = absurd (omega arith)
jumps_from least l n [] p (suc q) le a order within below = absurd (omega arith)
jumps_from least l n (x ∷ xs) zero (suc q) le a order within below =
    let small : x < least = omega (arith, below, last_take x (x + 1) q xs (omega arith) a.1) in
    jumps_from least x (x + 1) xs zero q (omega arith) a.1 (omega arith) (omega arith) below
    ∙ sym (filter_below least x xs small)
jumps_from least l n (x ∷ xs) (suc p) (suc q) le a order within below =
    jumps_from least x (x + 1) xs p q (omega arith) a.1 (omega arith) (omega arith) below

pub jumps : (items : List ℕ) (p q place last least : ℕ) → IsStrictlyIncreasing items → p ≤ q
    → IsAt items q place last → last < least → filter (nat_le least) (drop q items)
    ≡ filter (nat_le least) (drop p items)
jumps items p q place last least rising order at below =
    jumps_from least 0 0 items p q (omega arith) (above items rising) order at.there (omega (arith, at.ends, below))

above_drop : (n k : ℕ) (xs : List ℕ) → Above n xs → Above n (drop k xs)
above_drop n zero xs a = a
above_drop n (suc k) [] a = tt
above_drop n (suc k) (x ∷ xs) a = above_weaker n (x + 1) (drop k xs) (omega (arith, a.0)) (above_drop (x + 1) k xs a.1)

pub increasing_drop : (k : ℕ) (xs : List ℕ) → IsStrictlyIncreasing xs → IsStrictlyIncreasing (drop k xs)
increasing_drop k xs rising = increasing 0 (drop k xs) (above_drop 0 k xs (above xs rising))

-- ---- the loop that passes them

pub passes_all : (least : ℕ) (xs : List ℕ) → IsStrictlyIncreasing xs → starts_below least xs ≡ false
    → filter (nat_le least) xs ≡ xs
passes_all least [] rising e = refl
passes_all least (x ∷ xs) rising e =
    filter_from least x (x ∷ xs) (ltb-false x least e) (omega arith, (above (x ∷ xs) rising).1)
