-- Writing values one after the other, as a loop does.
use Rattle.std.proofs.Common.{◌≡◌, ℕ, zero, suc, ◌-◌, ◌+◌, ◌≤◌, ◌<◌, Bool, true, ◌&&◌, List, [], ◌∷◌, ◌++◌, length}
use Rattle.std.proofs.Common.{drop, take, get_or, ◌^◌, nat_lt}
use Rattle.std.proofs.Common.{refl, sym, ap, subst, ◌∙◌, append_assoc, arith}
use Rattle.std.proofs.Math.Nat.{sub-zero}
use Rattle.std.proofs.lemmas.Bool.{and_parts, ltb-true}
use Rattle.byte_formats.specs.Fields.{behind, count, counted, listed, mark}
use Rattle.std.proofs.lemmas.List.{append-nil, drop_all, drop_more, take_more}
use Rattle.byte_formats.specs.Format.{Format, many}

module _ {S X : Type 0} (item : S → Format X) (next : S → X → S) where
  -- what is spelled of the values from an index on
  abbrev pub spells : S → ℕ → ℕ → List X → List ℕ
  spells s count i xs = (many item next s (count - i)).spell (drop i xs)

  -- those that are left fit
  abbrev pub fit : S → ℕ → ℕ → List X → Type 0
  fit s count i xs = (many item next s (count - i)).fits (drop i xs) ≡ true

  one_spelled : (s : S) (n : ℕ) (x : X) (xs : List X)
      → (many item next s (suc n)).spell (x ∷ xs) ≡ (item s).spell x ++ (many item next (next s x) n).spell xs
  unfolding many
  one_spelled s n x xs = refl

  one_fits : (s : S) (n : ℕ) (x : X) (xs : List X) → (many item next s (suc n)).fits (x ∷ xs) ≡ true
      → ((item s).fits x ≡ true) × ((many item next (next s x) n).fits xs ≡ true)
  unfolding many
  one_fits s n x xs h = and_parts ((item s).fits x) ((many item next (next s x) n).fits xs) h

  none_spelled : (s : S) (n : ℕ) → (many item next s n).spell [] ≡ []
  unfolding many
  none_spelled s zero = refl
  none_spelled s (suc n) = refl

  module _ (s : S) (count i : ℕ) (xs : List X) (d : X) (len : length xs ≡ count) (lt : i < length xs) where
    here : drop i xs ≡ get_or xs i d ∷ drop (i + 1) xs
    here = drop_more xs i d lt

    more : count - i ≡ suc (count - (i + 1))
    more = omega (arith, len, lt)

    pub fits_on : fit s count i xs
        → ((item s).fits (get_or xs i d) ≡ true) × fit (next s (get_or xs i d)) count (i + 1) xs
    fits_on h =
        one_fits s (count - (i + 1)) (get_or xs i d) (drop (i + 1) xs)
        (subst (λ (ys : List X). (many item next s (suc (count - (i + 1)))).fits ys ≡ true) here
        (subst (λ (n : ℕ). (many item next s n).fits (drop i xs) ≡ true) more h))

    pub spells_on : (out total : List ℕ) → out ++ spells s count i xs ≡ total
        → (out ++ (item s).spell (get_or xs i d)) ++ spells (next s (get_or xs i d)) count (i + 1) xs ≡ total
    spells_on out total e =
        let x : X = get_or xs i d in
        let one : spells s count i xs ≡ (item s).spell x ++ spells (next s x) count (i + 1) xs =
        ap (λ (n : ℕ). (many item next s n).spell (drop i xs)) more
        ∙ ap (many item next s (suc (count - (i + 1)))).spell here
        ∙ one_spelled s (count - (i + 1)) x (drop (i + 1) xs) in
        append_assoc out ((item s).spell x) (spells (next s x) count (i + 1) xs)
        ∙ ap (λ (t : List ℕ). out ++ t) (sym one) ∙ e

  pub all_spelled : (s : S) (count i : ℕ) (xs : List X) (out total : List ℕ) → length xs ≤ i
      → out ++ spells s count i xs ≡ total
      → out ≡ total
  all_spelled s count i xs out total le e =
      let none : spells s count i xs ≡ [] =
      ap (many item next s (count - i)).spell (drop_all i xs le) ∙ none_spelled s (count - i) in
      sym (append-nil out) ∙ ap (λ (t : List ℕ). out ++ t) (sym none) ∙ e

pub counted_fits : {X : Type 0} (rule : ℕ → Bool) (size : X → ℕ) (body : ℕ → Format X) (x : X)
    → (counted rule size body).fits x ≡ true → (rule (size x) ≡ true) × (size x < 2 ^ 32) ×
    ((body (size x)).fits x ≡ true)
counted_fits rule size body x h =
    let a = and_parts (nat_lt (size x) (256 ^ 4) && rule (size x)) ((body (size x)).fits x) h in
    let b = and_parts (nat_lt (size x) (256 ^ 4)) (rule (size x)) a.0 in
    (b.1, ltb-true (size x) (256 ^ 4) b.0, a.1)

pub behind_fits : {X : Type 0} (bytes : List ℕ) (f : Format X) (x : X) → (behind bytes f).fits x ≡ true
    → f.fits x ≡ true
behind_fits bytes f x h = (and_parts ((mark bytes).fits bytes) (f.fits x) h).1

-- behind its count a list is to be written
pub starts : {S X : Type 0} (rule : ℕ → Bool) (item : S → Format X) (next : S → X
    → S) (s : S) (xs : List X) (old new : List ℕ)
    → new ≡ old ++ count.spell (length xs)
    → new ++ spells item next s (length xs) 0 xs ≡ old ++ (listed rule item next s).spell xs
starts rule item next s xs old new e =
    let whole : spells item next s (length xs) 0 xs ≡ (many item next s (length xs)).spell xs =
    ap (λ (n : ℕ). (many item next s n).spell xs) (sub-zero (length xs)) in
    ap (λ (t : List ℕ). t ++ spells item next s (length xs) 0 xs) e
    ∙ append_assoc old (count.spell (length xs)) (spells item next s (length xs) 0 xs)
    ∙ ap (λ (t : List ℕ). old ++ (count.spell (length xs) ++ t)) whole

-- the state after some values
abbrev pub state_after : {S X : Type 0} → (S → X → S) → S → List X → S
state_after next s [] = s
state_after next s (x ∷ xs) = state_after next (next s x) xs

state_push : {S X : Type 0} (next : S → X → S) (s : S) (xs : List X) (x : X)
    → state_after next s (xs ++ x ∷ []) ≡ next (state_after next s xs) x
state_push next s [] x = refl
state_push next s (y ∷ ys) x = state_push next (next s y) ys x

-- the state at an index
pub state_on : {S X : Type 0} (next : S → X → S) (s : S) (xs : List X) (i : ℕ) (d : X) → i < length xs
    → state_after next s (take (i + 1) xs) ≡ next (state_after next s (take i xs)) (get_or xs i d)
state_on next s xs i d lt =
    ap (state_after next s) (take_more xs i d lt) ∙ state_push next s (take i xs) (get_or xs i d)

-- each of many values that fit does, in its state
pub each_fits : {S X : Type 0} (item : S → Format X) (next : S → X → S) (n : ℕ) (s : S) (xs : List X) (i : ℕ) (d : X)
    → (many item next s n).fits xs ≡ true → i < n → (item (state_after next s (take i xs))).fits (get_or xs i d) ≡ true
unfolding many
each_fits item next zero s xs i d h lt = absurd (omega arith)
each_fits item next (suc n) s [] i d h lt = absurd cc
each_fits item next (suc n) s (x ∷ xs) zero d h lt =
    (and_parts ((item s).fits x) ((many item next (next s x) n).fits xs) h).0
each_fits item next (suc n) s (x ∷ xs) (suc i) d h lt =
    each_fits item next n (next s x) xs i d (and_parts ((item s).fits x) ((many item next (next s x) n).fits xs) h).1
    (omega arith)
