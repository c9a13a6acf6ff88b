-- How many bytes from the front on pass a test, some at a time.
use Rattle.std.proofs.Common.{◌≡◌, ℕ, zero, suc, ◌+◌, ◌-◌, ◌≤◌, Bool, true, List, [], ◌∷◌, length, take, drop, ap, subst, arith}
use Rattle.std.proofs.lemmas.Bool.{and_parts}
use Rattle.std.proofs.lemmas.List.{drop-drop, length-drop}
use Rattle.std.specs.List.{list_all, prefix_len}

one_more : (k m n : ℕ) → m ≡ k + n → 1 + m ≡ suc k + n
one_more k m n e = omega arith

all_pass : (p : ℕ → Bool) (k : ℕ) (xs : List ℕ) → k ≤ length xs → list_all p (take k xs) ≡ true →
    prefix_len p xs ≡ k + prefix_len p (drop k xs)
all_pass p zero xs le h = omega arith
all_pass p (suc k) [] le h = absurd (omega arith)
all_pass p (suc k) (x ∷ xs) le h =
    let b = and_parts (p x) (list_all p (take k xs)) h in
    rw b.0 (one_more k (prefix_len p xs) (prefix_len p (drop k xs)) (all_pass p k xs (omega arith) b.1))

same_len : (n k : ℕ) → (n + k) - n ≡ k
same_len n k = omega arith

-- a group behind those that passed passes too
pub group_passes : (p : ℕ → Bool) (xs : List ℕ) (n k : ℕ) → n + k ≤ length xs →
    list_all p (take ((n + k) - n) (drop n xs)) ≡ true →
    prefix_len p xs ≡ n + prefix_len p (drop n xs) → prefix_len p xs ≡ (n + k) + prefix_len p (drop (n + k) xs)
group_passes p xs n k le h e =
    let passes = subst (λ (m : ℕ). list_all p (take m (drop n xs)) ≡ true) (same_len n k) h in
    let more : prefix_len p (drop n xs) ≡ k + prefix_len p (drop k (drop n xs)) =
    all_pass p k (drop n xs) (omega (arith, length-drop n xs)) passes in
    let at : prefix_len p (drop k (drop n xs)) ≡ prefix_len p (drop (n + k) xs) =
    ap (λ (ys : List ℕ). prefix_len p ys) (drop-drop k n xs) in
    omega arith
