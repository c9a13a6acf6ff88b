-- How many bytes from the front on pass a test, one byte further on.
use Rattle.std.proofs.Common.{◌≡◌, ℕ, ◌+◌, ◌<◌, Bool, true, false, List, [], ◌∷◌, length, get_or, take, drop, suc, refl, add-one, drop-cons, arith}
use Rattle.std.specs.Prelude.{IsTrue}
use Rattle.std.specs.List.{prefix_len, list_all}

pub prefix_goes : (p : ℕ → Bool) (xs : List ℕ) (i : ℕ) → i < length xs → p (get_or xs i 0) ≡ true →
    prefix_len p (drop i xs) ≡ 1 + prefix_len p (drop (i + 1) xs)
prefix_goes p xs i lt e = rw (add-one, drop-cons xs i 0) (rw e refl)

pub prefix_ends : (p : ℕ → Bool) (xs : List ℕ) (i : ℕ) → i < length xs → p (get_or xs i 0) ≡ false →
    prefix_len p (drop i xs) ≡ 0
prefix_ends p xs i lt e = rw (drop-cons xs i 0) (rw e refl)

one-plus : (n : ℕ) → 1 + n ≡ suc n
one-plus n = omega arith

pass_step : (p : ℕ → Bool) (x : ℕ) (xs : List ℕ) (b : Bool) → p x ≡ b →
    IsTrue (list_all p (take (prefix_len p xs) xs)) →
    IsTrue (list_all p (take (prefix_len p (x ∷ xs)) (x ∷ xs)))
pass_step p x xs true e h = rw (e, one-plus (prefix_len p xs)) (rw e h)
pass_step p x xs false e h = rw e refl

all_pass : (p : ℕ → Bool) (xs : List ℕ) → IsTrue (list_all p (take (prefix_len p xs) xs))
all_pass p [] = refl
all_pass p (x ∷ xs) = pass_step p x xs (p x) refl (all_pass p xs)

-- all of those pass
pub prefix_passes : (p : ℕ → Bool) (xs front : List ℕ) (n : ℕ) → n ≡ prefix_len p xs → front ≡ take n xs →
    IsTrue (list_all p front)
prefix_passes p xs front n e f = rw (f, e) (all_pass p xs)
