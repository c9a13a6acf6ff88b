-- The choices of one number of each list, by the first list.
use Rattle.std.proofs.Common.{◌≡◌, ℕ, Bool, true, false, ◌||◌, List, [], ◌∷◌, ◌++◌, map, flat_map, ◌-◌}
use Rattle.std.proofs.Common.{◌<◌, ◌≤◌, drop, take, length, get_or, refl, sym, ap, subst, arith, ◌∙◌, append_assoc}
use Rattle.std.proofs.Common.{append-nil}
use Rattle.std.proofs.lemmas.List.Folds.{list_any-append, list_any_at}
use Rattle.std.proofs.lemmas.List.{take_all}
use Rattle.std.specs.List.{list_any}
use Rattle.doc_meaning.specs.Near.{choices}
use Rattle.plain_query.specs.Choices.{is_close, can_be_close}

pub any_same : {A : Type 0} (p q : A → Bool) (xs : List A) → ((x : A) → p x ≡ q x) → list_any p xs ≡ list_any q xs
any_same p q [] same = refl
any_same p q (x ∷ xs) same = ap (λ b. b || list_any p xs) (same x) ∙ ap (λ b. q x || b) (any_same p q xs same)

any_map : {A B : Type 0} (p : B → Bool) (f : A → B) (xs : List A) → list_any p (map f xs) ≡ list_any (λ x. p (f x)) xs
any_map p f [] = refl
any_map p f (x ∷ xs) = ap (λ b. p (f x) || b) (any_map p f xs)

any_flat_map : {A B : Type 0} (p : B → Bool) (f : A → List B) (xs : List A) →
    list_any p (flat_map f xs) ≡ list_any (λ x. list_any p (f x)) xs
any_flat_map p f [] = refl
any_flat_map p f (x ∷ xs) = list_any-append p (f x) (flat_map f xs)
    ∙ ap (λ b. list_any p (f x) || b) (any_flat_map p f xs)

pub close_one : (distance : ℕ) (ordered : Bool) (children : List (List ℕ)) (chosen : List ℕ) (n : ℕ) →
    list_any (λ rest. is_close distance ordered (chosen ++ n ∷ rest)) (choices children)
    ≡ can_be_close distance ordered (chosen ++ n ∷ []) children
close_one distance ordered children chosen n =
    any_same _ _ (choices children) (λ rest. ap (is_close distance ordered) (sym (append_assoc chosen (n ∷ []) rest)))

-- by the first list
pub close_first : (distance : ℕ) (ordered : Bool) (ns : List ℕ) (children : List (List ℕ)) (chosen : List ℕ) →
    can_be_close distance ordered chosen (ns ∷ children)
    ≡ list_any (λ n. can_be_close distance ordered (chosen ++ n ∷ []) children) ns
close_first distance ordered ns children chosen =
    let close : List ℕ → Bool = λ rest. is_close distance ordered (chosen ++ rest) in
    any_flat_map close (λ n. map (λ rest. n ∷ rest) (choices children)) ns
    ∙ any_same _ _ ns
    (λ n. any_map close (λ rest. n ∷ rest) (choices children) ∙ close_one distance ordered children chosen n)

or-false : (b : Bool) → (b || false) ≡ b
or-false true = refl
or-false false = refl

-- no list is left
pub close_none : (distance : ℕ) (ordered : Bool) (chosen : List ℕ) →
    can_be_close distance ordered chosen [] ≡ is_close distance ordered chosen
close_none distance ordered chosen =
    or-false (is_close distance ordered (chosen ++ [])) ∙ ap (is_close distance ordered) (append-nil chosen)

-- the lists behind the first one
abbrev pub behind_first : List (List ℕ) → List (List ℕ)
behind_first children = take (length children - 1) (drop 1 children)

behind_cons : (m : List ℕ) (rest : List (List ℕ)) → behind_first (m ∷ rest) ≡ rest
behind_cons m rest = take_all (length (m ∷ rest) - 1) rest (omega arith)

-- a number of the first list will do
pub close_here : (distance : ℕ) (ordered : Bool) (children : List (List ℕ)) (ns items chosen more : List ℕ) →
    (i d : ℕ) (b : Bool) → 1 ≤ length children → ns ≡ get_or children 0 ns → items ≡ ns → i < length items →
    more ≡ chosen ++ get_or items i d ∷ [] → b ≡ can_be_close distance ordered more (behind_first children) →
    b ≡ true → true ≡ can_be_close distance ordered chosen children
close_here distance ordered [] ns items chosen more i d b one is same lt grown says holds = absurd (omega arith)
close_here distance ordered (m ∷ rest) ns items chosen more i d b one is same lt grown says holds =
    let close : List ℕ → Bool = λ all. can_be_close distance ordered all rest in
    let at : items ≡ m = same ∙ is in
    let told : b ≡ close more = says ∙ ap (can_be_close distance ordered more) (behind_cons m rest) in
    let here : close (chosen ++ get_or items i d ∷ []) ≡ true = sym (ap close grown) ∙ sym told ∙ holds in
    sym
    (close_first distance ordered m rest chosen
    ∙ list_any_at (λ n. close (chosen ++ n ∷ [])) m i d (subst (λ xs. i < length xs) at lt)
    (subst (λ xs. close (chosen ++ get_or xs i d ∷ []) ≡ true) at here))

-- no number of the first list will do
pub close_nowhere : (distance : ℕ) (ordered : Bool) (children : List (List ℕ)) (ns items chosen : List ℕ) (k : ℕ) →
    1 ≤ length children → ns ≡ get_or children 0 ns → items ≡ ns → length items ≤ k →
    list_any (λ n. can_be_close distance ordered (chosen ++ n ∷ []) (behind_first children)) (take k items) ≡ false →
    false ≡ can_be_close distance ordered chosen children
close_nowhere distance ordered [] ns items chosen k one is same le none = absurd (omega arith)
close_nowhere distance ordered (m ∷ rest) ns items chosen k one is same le none =
    let close : List (List ℕ) → ℕ → Bool = λ left n. can_be_close distance ordered (chosen ++ n ∷ []) left in
    sym
    (close_first distance ordered m rest chosen
    ∙ ap (λ left. list_any (close left) m) (sym (behind_cons m rest))
    ∙ ap (list_any (close (behind_first (m ∷ rest)))) (sym (take_all k items le ∙ same ∙ is))
    ∙ none)
