-- The places of words: how they grow by one, and how far they reach.
use Rattle.std.proofs.Common.{◌≡◌, ℕ, zero, suc, ◌+◌, ◌^◌, ◌<◌, Bool, true, false, cond, List, [], ◌∷◌, ◌++◌}
use Rattle.std.proofs.Common.{All, drop, filter, length, refl, ap, ◌∙◌, arith}
use Rattle.std.proofs.lemmas.List.{length-map}
use Rattle.std.proofs.lemmas.List.Elements.{filter-append, All-filter, All-nil, All-cons, All-weaker}
use Rattle.std.specs.List.{range_with_len, starts_with}
use Rattle.std.specs.Str.{bytes_eq}
use Rattle.doc_meaning.specs.Strings.{positions, words_seen}
use Rattle.doc_meaning.specs.Words.{plain, folded, fold_case}

range_push-suc : (n a : ℕ) → range_with_len a (suc n) ≡ range_with_len a n ++ (a + n) ∷ []
range_push-suc zero a = let e : a + 0 ≡ a = omega arith in rw e
range_push-suc (suc n) a =
    let e : a + suc n ≡ (a + 1) + n = omega arith in
    rw e (ap (λ xs. a ∷ xs) (range_push-suc n (a + 1)))

range_push : (n a : ℕ) → range_with_len a (n + 1) ≡ range_with_len a n ++ (a + n) ∷ []
range_push n a = let e : n + 1 ≡ suc n = omega arith in rw e (range_push-suc n a)

pub filter_range_push : (p : ℕ → Bool) (n : ℕ) →
    filter p (range_with_len 0 (n + 1)) ≡ filter p (range_with_len 0 n) ++ cond (p n) (n ∷ []) []
filter_range_push p n =
    let e : 0 + n ≡ n = omega arith in
    ap (filter p) (range_push n 0) ∙ filter-append p (range_with_len 0 n) ((0 + n) ∷ []) ∙ rw e

range_below : (n a : ℕ) → All (λ j. j < a + n) (range_with_len a n)
range_below zero a = All-nil (λ j. j < a + zero)
range_below (suc n) a =
    All-cons (λ j. j < a + suc n) a (range_with_len (a + 1) n) (omega arith)
    (All-weaker (λ j. j < (a + 1) + n) (λ j. j < a + suc n) (λ j lt. omega (arith, lt)) (range_with_len (a + 1) n)
    (range_below n (a + 1)))

-- each place is that of a word
pub positions_below : (wanted seen : List (List ℕ)) → All (λ j. j < length seen) (positions wanted seen)
positions_below [] seen = All-nil (λ j. j < length seen)
positions_below (w ∷ ws) seen =
    All-filter (λ j. starts_with bytes_eq (drop j seen) (w ∷ ws)) (λ j. j < length seen)
    (range_with_len 0 (length seen))
    (All-weaker (λ j. j < 0 + length seen) (λ j. j < length seen) (λ j lt. omega (arith, lt))
    (range_with_len 0 (length seen)) (range_below (length seen) 0))

-- as many words are seen as there are
pub length-words_seen : (any_case : Bool) (text : List ℕ) → length (words_seen any_case text) ≡ length (plain text)
unfolding folded
length-words_seen true text = length-map (plain text) fold_case
length-words_seen false text = refl

pub places_fit : (base : ℕ) (any_case : Bool) (wanted : List (List ℕ)) (text : List ℕ) →
    base + length (plain text) < 2 ^ 64 → All (λ j. base + j < 2 ^ 64) (positions wanted (words_seen any_case text))
places_fit base any_case wanted text fits =
    All-weaker (λ j. j < length (words_seen any_case text)) (λ j. base + j < 2 ^ 64)
    (λ j lt. omega (arith, lt, fits, length-words_seen any_case text))
    (positions wanted (words_seen any_case text)) (positions_below wanted (words_seen any_case text))
