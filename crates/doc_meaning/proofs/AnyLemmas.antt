-- Whether some element of a list passes a test.
use Rattle.std.proofs.Common.{◌≡◌, ◌&&◌, ◌||◌, Bool, true, false, cond, List, [], ◌∷◌, map, flat_map, filter, refl, ap, ◌∙◌}
use Rattle.std.proofs.lemmas.List.Folds.{Any-from_list_any, list_any-append, list_any-from_Any}
use Rattle.std.specs.List.{list_any}

pub any-map : {A B : Type 0} (p : B → Bool) (f : A → B) (xs : List A) → list_any p (map f xs) ≡ list_any (λ x. p (f x)) xs
any-map p f [] = refl
any-map p f (x ∷ xs) = ap (λ b. p (f x) || b) (any-map p f xs)

pub any-flat_map : {A B : Type 0} (p : B → Bool) (f : A → List B) (xs : List A) →
    list_any p (flat_map f xs) ≡ list_any (λ x. list_any p (f x)) xs
any-flat_map p f [] = refl
any-flat_map p f (x ∷ xs) = list_any-append p (f x) (flat_map f xs) ∙ ap (λ b. list_any p (f x) || b) (any-flat_map p f xs)

pub any_same : {A : Type 0} (p q : A → Bool) → ((x : A) → p x ≡ q x) → (xs : List A) → list_any p xs ≡ list_any q xs
any_same p q same [] = refl
any_same p q same (x ∷ xs) = ap (λ b. b || list_any p xs) (same x) ∙ ap (λ b. q x || b) (any_same p q same xs)

pub any_weaker : {A : Type 0} (p q : A → Bool) → ((x : A) → p x ≡ true → q x ≡ true) → (xs : List A) →
    list_any p xs ≡ true → list_any q xs ≡ true
any_weaker p q weaker xs is =
    let some = Any-from_list_any p xs is in
    list_any-from_Any q xs (some.0, some.1, some.2, some.3, weaker some.1 some.4)

pub any_swapped : {A B : Type 0} (g : A → B → Bool) (xs : List A) (ys : List B) →
    list_any (λ x. list_any (g x) ys) xs ≡ true → list_any (λ y. list_any (λ x. g x y) xs) ys ≡ true
any_swapped g xs ys is =
    let outer = Any-from_list_any (λ x. list_any (g x) ys) xs is in
    let inner = Any-from_list_any (g outer.1) ys outer.4 in
    list_any-from_Any (λ y. list_any (λ x. g x y) xs) ys
    (inner.0, inner.1, inner.2, inner.3, list_any-from_Any (λ x. g x inner.1) xs (outer.0, outer.1, outer.2, outer.3, inner.4))

or_and : (a b c : Bool) → ((a || b) && c) ≡ ((a && c) || (b && c))
or_and true b true = refl
or_and true true false = refl
or_and true false false = refl
or_and false b c = refl

pub any_and : {A : Type 0} (p : A → Bool) (b : Bool) (xs : List A) → (list_any p xs && b) ≡ list_any (λ x. p x && b) xs
any_and p b [] = refl
any_and p b (x ∷ xs) = or_and (p x) (list_any p xs) b ∙ ap (λ c. (p x && b) || c) (any_and p b xs)

pub any-filter : {A : Type 0} (p keep : A → Bool) (xs : List A) → list_any p (filter keep xs) ≡ list_any (λ x. keep x && p x) xs
any-filter p keep [] = refl
any-filter p keep (x ∷ xs) = go (keep x) ∙ ap (λ b. (keep x && p x) || b) (any-filter p keep xs)
  where
    go : (b : Bool) → list_any p (cond b (x ∷ filter keep xs) (filter keep xs)) ≡ ((b && p x) || list_any p (filter keep xs))
    go true = refl
    go false = refl

pub any_none : {A : Type 0} (xs : List A) → list_any (λ x. false) xs ≡ false
any_none [] = refl
any_none (x ∷ xs) = any_none xs
