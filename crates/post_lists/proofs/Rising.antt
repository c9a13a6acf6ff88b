-- Lists that rise strictly, by recursion.
use Rattle.std.proofs.Common.{◌↔◌, ◌≡◌, ℕ, zero, suc, ◌+◌, ◌<◌, ◌≤◌, List, [], ◌∷◌, ◌++◌, length, refl, arith}
use Rattle.std.specs.List.{AllByRecursion}
use Rattle.std.specs.List.Sorted.{IsStrictlyIncreasing}
use Rattle.std.specs.Ordering.{nat_cmp}
use Rattle.std.proofs.lemmas.Map.Keys.{IsStrictlyIncreasing-from_sorted, sorted_from_strictly_increasing, sorted_tail}
use Rattle.post_lists.specs.Numbers.{last_of}

-- each item is greater than the one before it, and the first is at least n
abbrev pub Above : ℕ → List ℕ → Type 0
Above n [] = Unit {0}
Above n (x ∷ xs) = (n ≤ x) × Above (x + 1) xs

increasing_tail : (x : ℕ) (xs : List ℕ) → IsStrictlyIncreasing (x ∷ xs) → IsStrictlyIncreasing xs
increasing_tail x xs r =
    IsStrictlyIncreasing-from_sorted xs (sorted_tail nat_cmp x xs (sorted_from_strictly_increasing (x ∷ xs) r))

above_after : (x : ℕ) (xs : List ℕ) → IsStrictlyIncreasing (x ∷ xs) → Above (x + 1) xs
above_after x [] r = tt
above_after x (y ∷ ys) r = (omega (arith, r 0 (omega arith)), above_after y ys (increasing_tail x (y ∷ ys) r))

pub above : (xs : List ℕ) → IsStrictlyIncreasing xs → Above 0 xs
above [] r = tt
above (x ∷ xs) r = (omega arith, above_after x xs r)

pub increasing : (n : ℕ) (xs : List ℕ) → Above n xs → IsStrictlyIncreasing xs
increasing n [] a k lt = absurd (omega arith)
increasing n (x ∷ []) a k lt = absurd (omega arith)
increasing n (x ∷ y ∷ ys) a zero lt = omega (arith, a.1.0)
increasing n (x ∷ y ∷ ys) a (suc k) lt =
    let e : suc k + 1 ≡ suc (k + 1) = omega arith in
    rw e (increasing (x + 1) (y ∷ ys) a.1 k (omega arith))

pub above_weaker : (m n : ℕ) (xs : List ℕ) → m ≤ n → Above n xs → Above m xs
above_weaker m n [] le a = tt
above_weaker m n (x ∷ xs) le a = (omega (arith, a.0), a.1)

-- ---- in two parts

pub above_front : (n : ℕ) (xs ys : List ℕ) → Above n (xs ++ ys) → Above n xs
above_front n [] ys a = tt
above_front n (x ∷ xs) ys a = (a.0, above_front (x + 1) xs ys a.1)

pub above_rest : (n : ℕ) (xs : List ℕ) (y : ℕ) (ys : List ℕ) → Above n (xs ++ y ∷ ys) → (n ≤ y) × Above (y + 1) ys
above_rest n [] y ys a = a
above_rest n (x ∷ xs) y ys a =
    let b = above_rest (x + 1) xs y ys a.1 in
    (omega (arith, a.0, b.0), b.1)

pub above_back : (n : ℕ) (xs ys : List ℕ) → Above n (xs ++ ys) → Above n ys
above_back n [] ys a = a
above_back n (x ∷ xs) ys a = above_weaker n (x + 1) ys (omega (arith, a.0)) (above_back (x + 1) xs ys a.1)

pub above_without : (n : ℕ) (xs : List ℕ) (y : ℕ) (ys : List ℕ) → Above n (xs ++ y ∷ ys) → Above n (xs ++ ys)
above_without n [] y ys a = above_weaker n (y + 1) ys (omega (arith, a.0)) a.1
above_without n (x ∷ xs) y ys a = (a.0, above_without (x + 1) xs y ys a.1)

pub above_join : (n : ℕ) (xs : List ℕ) (y : ℕ) (ys : List ℕ)
    → Above n (xs ++ y ∷ []) → Above (y + 1) ys → Above n ((xs ++ y ∷ []) ++ ys)
above_join n [] y ys a b = (a.0, b)
above_join n (x ∷ xs) y ys a b = (a.0, above_join (x + 1) xs y ys a.1 b)

-- ---- the last item

pub last_more : (l : ℕ) (xs : List ℕ) (x : ℕ) → last_of l (xs ++ x ∷ []) ≡ x
last_more l [] x = refl
last_more l (y ∷ ys) x = last_more y ys x

pub last_least : (l n : ℕ) (xs : List ℕ) → l ≤ n → Above n xs → l ≤ last_of l xs
last_least l n [] le a = omega arith
last_least l n (x ∷ xs) le a = omega (arith, a.0, last_least x (x + 1) xs (omega arith) a.1)

-- the last item is at most the next one
pub last_at_most : (l n : ℕ) (xs : List ℕ) (x : ℕ) → l ≤ n → Above n (xs ++ x ∷ []) → last_of l xs ≤ x
last_at_most l n [] x le a = omega (arith, a.0)
last_at_most l n (y ∷ ys) x le a = last_at_most y (y + 1) ys x (omega arith) a.1

-- and below it
pub last_below : (n y : ℕ) (ys : List ℕ) (x : ℕ) → Above n (y ∷ ys ++ x ∷ []) → last_of y ys < x
last_below n y [] x a = omega (arith, a.1.0)
last_below n y (z ∷ zs) x a = last_below (y + 1) z zs x a.1

-- one item more
pub above_push : (n l : ℕ) (xs : List ℕ) (x : ℕ)
    → Above n xs → n ≤ x → (0 < length xs → last_of l xs < x) → Above n (xs ++ x ∷ [])
above_push n l [] x a le lt = (le, tt)
above_push n l (y ∷ ys) x a le lt =
    let here : last_of y ys < x = lt (omega arith) in
    let least : y ≤ last_of y ys = last_least y (y + 1) ys (omega arith) a.1 in
    (a.0, above_push (y + 1) y ys x a.1 (omega (arith, here, least)) (λ some. here))

-- which items may follow
pub next_some : (xs : List ℕ) (last : ℕ) → 0 < length xs → last ≡ last_of 0 xs → IsStrictlyIncreasing xs
    → (x : ℕ) → IsStrictlyIncreasing (xs ++ x ∷ []) ↔ (last + 1 ≤ x)
next_some [] last some ends r x = absurd (omega arith)
next_some (y ∷ ys) last some ends r x = (
  λ up. omega (arith, ends, last_below 0 y ys x (above (y ∷ ys ++ x ∷ []) up)),
  λ le.
      let lt : last_of y ys < x = omega (arith, ends, le) in
      increasing 0 (y ∷ ys ++ x ∷ []) (above_push 0 0 (y ∷ ys) x (above (y ∷ ys) r) (omega arith) (λ some. lt)),
)

-- ---- each item below a bound

pub each_push : (b : ℕ) (xs : List ℕ) (x : ℕ)
    → AllByRecursion (λ y. y < b) xs → x < b → AllByRecursion (λ y. y < b) (xs ++ x ∷ [])
each_push b [] x h lt = (lt, tt)
each_push b (y ∷ ys) x h lt = (h.0, each_push b ys x h.1 lt)

pub each_front : (b : ℕ) (xs ys : List ℕ)
    → AllByRecursion (λ y. y < b) (xs ++ ys) → AllByRecursion (λ y. y < b) xs
each_front b [] ys h = tt
each_front b (x ∷ xs) ys h = (h.0, each_front b xs ys h.1)

pub each_back : (b : ℕ) (xs ys : List ℕ)
    → AllByRecursion (λ y. y < b) (xs ++ ys) → AllByRecursion (λ y. y < b) ys
each_back b [] ys h = h
each_back b (x ∷ xs) ys h = each_back b xs ys h.1

pub each_weaker : (b c : ℕ) (xs : List ℕ) → b ≤ c
    → AllByRecursion (λ y. y < b) xs → AllByRecursion (λ y. y < c) xs
each_weaker b c [] le h = tt
each_weaker b c (x ∷ xs) le h = (omega (arith, h.0), each_weaker b c xs le h.1)
