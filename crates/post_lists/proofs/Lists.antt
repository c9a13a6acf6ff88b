-- A spelling in two parts, and the items that are read from it.
use Rattle.std.proofs.Common.{◌≡◌, ℕ, suc, ◌+◌, ◌-◌, ◌^◌, ◌<◌, ◌≤◌, List, [], ◌∷◌, ◌++◌, length, Some}
use Rattle.std.proofs.Common.{refl, sym, ap, ◌∙◌, append_assoc, arith}
use Rattle.std.specs.List.{AllByRecursion}
use Rattle.std.proofs.lemmas.List.{append-nil}
use Rattle.post_lists.specs.Numbers.{digits_at, item_then, items_of, last_of}
use Rattle.post_lists.specs.Postings.{ArePostings, number, spelling, spelling_after}
use Rattle.post_lists.proofs.Digits.{digits_again}
use Rattle.post_lists.proofs.Rising.{Above, above}

pub spelling_append : (l : ℕ) (xs ys : List ℕ)
    → spelling_after l (xs ++ ys) ≡ spelling_after l xs ++ spelling_after (last_of l xs) ys
spelling_append l [] ys = refl
spelling_append l (x ∷ xs) ys =
    ap (λ (bytes : List ℕ). number (x - l) ++ bytes) (spelling_append x xs ys)
    ∙ sym (append_assoc (number (x - l)) (spelling_after x xs) (spelling_after (last_of x xs) ys))

pub spelling_push : (xs : List ℕ) (x : ℕ) → spelling (xs ++ x ∷ []) ≡ spelling xs ++ number (x - last_of 0 xs)
spelling_push xs x =
    spelling_append 0 xs (x ∷ [])
    ∙ ap (λ (bytes : List ℕ). spelling xs ++ bytes) (append-nil (number (x - last_of 0 xs)))

-- a number below 2 ^ 32 is read again
pub number_again : (n : ℕ) (rest : List ℕ) → n < 2 ^ 32 → digits_at 5 (number n ++ rest) ≡ Some (n, rest)
number_again n rest below = digits_again 5 n rest (omega arith) (omega arith)

items_step : (count last n : ℕ) (bytes rest : List ℕ) → digits_at 5 bytes ≡ Some (n, rest)
    → items_of (suc count) last bytes ≡ (last + n) ∷ items_of count (last + n) rest
unfolding items_of
items_step count last n bytes rest e = ap (item_then (items_of count) last) e

-- the items that were spelled, whatever follows
pub items_again : (xs : List ℕ) (l n : ℕ) (rest : List ℕ) → l ≤ n → Above n xs → AllByRecursion (λ x. x < 2 ^ 32) xs
    → items_of (length xs) l (spelling_after l xs ++ rest) ≡ xs
unfolding items_of
items_again [] l n rest le a each = refl
items_again (x ∷ xs) l n rest le a each =
    let back : l + (x - l) ≡ x = omega (arith, a.0) in
    let read : digits_at 5 (number (x - l) ++ (spelling_after x xs ++ rest))
    ≡ Some (x - l, spelling_after x xs ++ rest) =
    number_again (x - l) (spelling_after x xs ++ rest) (omega (arith, each.0)) in
    ap (items_of (suc (length xs)) l) (append_assoc (number (x - l)) (spelling_after x xs) rest)
    ∙ items_step (length xs) l (x - l) (number (x - l) ++ (spelling_after x xs ++ rest)) (spelling_after x xs ++ rest)
    read
    ∙ ap (λ (y : ℕ). y ∷ items_of (length xs) y (spelling_after x xs ++ rest)) back
    ∙ ap (λ (ys : List ℕ). x ∷ ys) (items_again xs x (x + 1) rest (omega arith) a.1 each.1)

-- the items of a spelling, and no others
pub items_of_spelling : (xs : List ℕ) → ArePostings (2 ^ 32) xs → items_of (length xs) 0 (spelling xs) ≡ xs
items_of_spelling xs p =
    ap (items_of (length xs) 0) (sym (append-nil (spelling xs)))
    ∙ items_again xs 0 0 [] (omega arith) (above xs p.rising) p.each
