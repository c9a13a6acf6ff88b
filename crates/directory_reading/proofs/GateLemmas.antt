-- The gates of the frames of bodies, with one more body.
use Rattle.std.proofs.Common.{◌≡◌, ◌∙◌, ◌≤◌, ◌<◌, ℕ, List, [], ◌∷◌, ◌++◌, Some, refl, sym, ap, ⊎_elim, length, get_or, slice_get, length-append, arith}
use Rattle.std.specs.List.{AllZip}
use Rattle.std.proofs.lemmas.Bool.{cases_lt}
use Rattle.std.proofs.lemmas.List.{get_or_append_left, get_or_push, take-append-le, take_at}
use Rattle.std.proofs.lemmas.Option.{slice_get-get_or}
use Rattle.frame_log.specs.Frames.{framed}
use Rattle.directory_meaning.specs.Damages.{gate_of}

-- two lists side by side are equally long
pub zip_length : {A B : Type 0} (R : A → B → Type 0) (xs : List A) (ys : List B) → AllZip R xs ys →
    length xs ≡ length ys
zip_length R [] [] z = refl
zip_length R [] (y ∷ ys) z = absurd z
zip_length R (x ∷ xs) [] z = absurd z
zip_length R (x ∷ xs) (y ∷ ys) z = omega (arith, zip_length R xs ys z.1)

pub zip_push : {A B : Type 0} (R : A → B → Type 0) (xs : List A) (ys : List B) (x : A) (y : B) → AllZip R xs ys
    → R x y → AllZip R (xs ++ x ∷ []) (ys ++ y ∷ [])
zip_push R [] [] x y z r = (r, tt)
zip_push R [] (b ∷ ys) x y z r = absurd z
zip_push R (a ∷ xs) [] x y z r = absurd z
zip_push R (a ∷ xs) (b ∷ ys) x y z r = (z.0, zip_push R xs ys x y z.1 r)

-- the earlier gates stay
pub gate_stays : (bodies : List (List ℕ)) (body : List ℕ) (k : ℕ) → k ≤ length bodies →
    gate_of (bodies ++ body ∷ []) k ≡ gate_of bodies k
gate_stays bodies body k within =
    ap (λ (l : List (List ℕ)). length (framed l)) (take-append-le k bodies (body ∷ []) within)

-- the gate of the last body
pub gate_pushed : (bodies : List (List ℕ)) (body : List ℕ) (k : ℕ) → length bodies ≡ k →
    gate_of (bodies ++ body ∷ []) k ≡ length (framed bodies)
gate_pushed bodies body k is =
    ap (λ (l : List (List ℕ)). length (framed l)) (take_at bodies (body ∷ []) k is)

abbrev pub Placed : List (List ℕ) → List ℕ → Type 0
Placed bodies gates = (k : ℕ) → k < length bodies → slice_get gates k ≡ Some (gate_of bodies k)

pub gates_push : (bodies : List (List ℕ)) (gates : List ℕ) (body : List ℕ) (gate : ℕ) → length gates ≡ length bodies →
    Placed bodies gates → gate ≡ length (framed bodies) → Placed (bodies ++ body ∷ []) (gates ++ gate ∷ [])
gates_push bodies gates body gate many placed is k within = ⊎_elim
    (λ (low : k < length bodies).
    let before : k < length gates = omega (arith, low, many) in
    there
    ∙ ap (λ (n : ℕ). Some n) (get_or_append_left gates (gate ∷ []) 0 k before)
    ∙ sym (slice_get-get_or gates k 0 before)
    ∙ placed k low
    ∙ ap (λ (n : ℕ). Some n) (sym (gate_stays bodies body k (omega (arith, low)))))
    (λ (high : length bodies ≤ k).
    let last : length bodies ≡ k = omega (arith, high, within, length-append bodies (body ∷ [])) in
    there
    ∙ ap (λ (n : ℕ). Some n)
    (get_or_push gates gate 0 k (omega (arith, last, many)) ∙ is ∙ sym (gate_pushed bodies body k last)))
    (cases_lt k (length bodies))
  where
    there : slice_get (gates ++ gate ∷ []) k ≡ Some (get_or (gates ++ gate ∷ []) k 0)
    there = slice_get-get_or (gates ++ gate ∷ []) k 0
        (omega (arith, within, length-append bodies (body ∷ []), length-append gates (gate ∷ []), many))
