-- One element more at the end of a list.
use Rattle.std.proofs.Common.{◌≡◌, ◌<◌, ℕ, zero, suc, List, [], ◌∷◌, ◌++◌, take, length, Some}
use Rattle.std.proofs.Common.{sym, subst, ap, ◌∙◌, length-append, arith}
use Rattle.std.proofs.Math.Seq.{get_or-append_seam}
use Rattle.std.proofs.lemmas.List.{get_or_append_left}
use Rattle.std.proofs.lemmas.Option.{slice_get-get_or}
use Rattle.std.specs.List.{All, slice_get}

-- what holds of each element and those before it holds still with one more
pub at_more : {X : Type 0} (P : List X → X → Type 0) (xs : List X) (x : X)
    → ((k : ℕ) (y : X) → slice_get xs k ≡ Some y → P (take k xs) y) → P xs x
    → (k : ℕ) (y : X) → slice_get (xs ++ x ∷ []) k ≡ Some y → P (take k (xs ++ x ∷ [])) y
at_more P [] x all next zero y is = let same : x ≡ y = cc in subst (λ (e : _). P [] e) same next
at_more P [] x all next (suc k) y is = absurd (cc)
at_more P (z ∷ zs) x all next zero y is = all zero y is
at_more P (z ∷ zs) x all next (suc k) y is = at_more (λ l e. P (z ∷ l) e) zs x (λ j e i. all (suc j) e i) next k y is

pub single : {A : Type 0} (P : A → Type 0) (x : A) → P x → All P (x ∷ [])
single P x p zero d lt = p
single P x p (suc k) d lt = absurd (omega (arith, lt))

-- the last element
pub get_last : {X : Type 0} (xs : List X) (x : X) → slice_get (xs ++ x ∷ []) (length xs) ≡ Some x
get_last xs x =
    slice_get-get_or (xs ++ x ∷ []) (length xs) x (omega (arith, length-append xs (x ∷ [])))
    ∙ ap Some (get_or-append_seam xs x [] x)

-- those before it
pub get_before : {X : Type 0} (xs : List X) (x : X) (k : ℕ) → k < length xs
    → slice_get (xs ++ x ∷ []) k ≡ slice_get xs k
get_before xs x k lt =
    slice_get-get_or (xs ++ x ∷ []) k x (omega (arith, length-append xs (x ∷ []), lt))
    ∙ ap Some (get_or_append_left xs (x ∷ []) x k lt) ∙ sym (slice_get-get_or xs k x lt)
