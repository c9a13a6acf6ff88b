-- What the order of bytes says of two texts, and of a text and a prefix.
use Rattle.std.proofs.Common.{◌≡◌, ℕ, zero, suc, ◌≤◌, true, false, List, [], ◌∷◌, ◌++◌, length, take, drop}
use Rattle.std.proofs.Common.{refl, ap, sym, ◌∙◌, arith, take-append-drop}
use Rattle.std.specs.Cmp.Lexicographic.{slice_cmp}
use Rattle.std.specs.Ordering.{is_lt, is_le, nat_cmp, ordering_index, ordering_then}
use Rattle.std.specs.declared.cmp.Ordering.{Ordering}
use Rattle.std.specs.declared.cmp.Ordering.TheVariants.{Equal, Greater, Less}
use Rattle.std.proofs.lemmas.Cmp.{nat_list_cmp_total, tied_itself}
use Rattle.std.proofs.lemmas.List.{take_at}
use Rattle.std.proofs.lemmas.Map.Lookups.{exact_bytes}

pub less_is : (o : Ordering) → is_lt o ≡ true → o ≡ Less
less_is Less e = refl
less_is Equal e = cc
less_is Greater e = cc

-- neither less nor greater
pub equal_is : (o : Ordering) → (o ≡ Less → ⊥) → is_le o ≡ true → o ≡ Equal
equal_is Less least le = absurd (least refl)
equal_is Equal least le = refl
equal_is Greater least le = cc

-- an order that is no greater passes what the greater one passes
pub lt_down : (a b : Ordering) → ordering_index a ≤ ordering_index b → is_lt b ≡ true → is_lt a ≡ true
lt_down Less b le passes = refl
lt_down Equal Less le passes = absurd (omega arith)
lt_down Equal Equal le passes = passes
lt_down Equal Greater le passes = passes
lt_down Greater Less le passes = absurd (omega arith)
lt_down Greater Equal le passes = passes
lt_down Greater Greater le passes = passes

pub le_down : (a b : Ordering) → ordering_index a ≤ ordering_index b → is_le b ≡ true → is_le a ≡ true
le_down Less b le passes = refl
le_down Equal b le passes = refl
le_down Greater Less le passes = absurd (omega arith)
le_down Greater Equal le passes = absurd (omega arith)
le_down Greater Greater le passes = passes

-- two texts that compare as equal are one
pub same_text : (a b : List ℕ) → slice_cmp nat_cmp a b ≡ Equal → a ≡ b
same_text a b e = exact_bytes a b e

pub equal_itself : (a : List ℕ) → slice_cmp nat_cmp a a ≡ Equal
equal_itself a = tied_itself nat_list_cmp_total a

then_not_less : (o p q : Ordering) → (is_lt p ≡ false → is_lt q ≡ false)
    → is_lt (ordering_then o p) ≡ false → is_lt (ordering_then o q) ≡ false
then_not_less Less p q f h = h
then_not_less Equal p q f h = f h
then_not_less Greater p q f h = refl

-- the first bytes of two texts are in the order of the texts
pub heads_not_less : (n : ℕ) (a b : List ℕ) → is_lt (slice_cmp nat_cmp a b) ≡ false
    → is_lt (slice_cmp nat_cmp (take n a) (take n b)) ≡ false
heads_not_less zero a b h = refl
heads_not_less (suc n) [] [] h = refl
heads_not_less (suc n) [] (y ∷ ys) h = h
heads_not_less (suc n) (x ∷ xs) [] h = refl
heads_not_less (suc n) (x ∷ xs) (y ∷ ys) h =
    then_not_less (nat_cmp x y) (slice_cmp nat_cmp xs ys) (slice_cmp nat_cmp (take n xs) (take n ys))
    (heads_not_less n xs ys) h

then_same : (o p q : Ordering) → is_lt p ≡ is_lt q → is_lt (ordering_then o p) ≡ is_lt (ordering_then o q)
then_same Less p q e = refl
then_same Equal p q e = e
then_same Greater p q e = refl

-- a text is less than a prefix exactly where its first bytes are
pub head_less : (prefix a : List ℕ)
    → is_lt (slice_cmp nat_cmp (take (length prefix) a) prefix) ≡ is_lt (slice_cmp nat_cmp a prefix)
head_less [] [] = refl
head_less [] (x ∷ xs) = refl
head_less (p ∷ ps) [] = refl
head_less (p ∷ ps) (x ∷ xs) =
    then_same (nat_cmp x p) (slice_cmp nat_cmp (take (length ps) xs) ps) (slice_cmp nat_cmp xs ps) (head_less ps xs)

-- and begins with it exactly where they are the prefix
pub begins : (prefix a : List ℕ) → slice_cmp nat_cmp (take (length prefix) a) prefix ≡ Equal
    → (rest : List ℕ) × (a ≡ prefix ++ rest)
begins prefix a e =
    let n = length prefix in
    (drop n a, sym (take-append-drop n a) ∙ ap (λ head. head ++ drop n a) (same_text (take n a) prefix e))

pub begins_back : (prefix a rest : List ℕ) → a ≡ prefix ++ rest
    → slice_cmp nat_cmp (take (length prefix) a) prefix ≡ Equal
begins_back prefix a rest is =
    ap (λ t. slice_cmp nat_cmp (take (length prefix) t) prefix) is
    ∙ ap (λ head. slice_cmp nat_cmp head prefix) (take_at prefix rest (length prefix) refl) ∙ equal_itself prefix
