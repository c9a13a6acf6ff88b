-- Where wanted words occur one after another.
use Rattle.std.proofs.Common.{◌≡◌, ℕ, zero, suc, ◌+◌, ◌<◌, ◌||◌, Bool, true, false, cond, List, [], ◌∷◌, drop, filter}
use Rattle.std.proofs.Common.{length, refl, sym, ap, ◌∙◌, subst, eqb-true, arith}
use Rattle.std.proofs.lemmas.Bool.{false≢true}
use Rattle.std.proofs.lemmas.List.Folds.{list_any_at}
use Rattle.std.proofs.lemmas.List.FromFn.{get_or-range_with_len, length-range_with_len}
use Rattle.std.specs.Prelude.{◌==◌}
use Rattle.std.specs.List.{list_any, range_with_len, starts_with}
use Rattle.std.specs.Str.{bytes_eq}
use Rattle.doc_meaning.specs.Meaning.{is_nonempty}
use Rattle.doc_meaning.specs.Strings.{positions}

-- the wanted words occur from there on
abbrev pub starts_at : List (List ℕ) → List (List ℕ) → ℕ → Bool
starts_at wanted seen j = starts_with bytes_eq (drop j seen) wanted

pub some_there : (n : ℕ) (b : Bool) → b ≡ (n == 0) → b ≡ false → 0 < n
some_there zero b is fails = absurd (false≢true (sym fails ∙ is))
some_there (suc n) b is fails = omega arith

pub none_there : (xs : List (List ℕ)) (b : Bool) → b ≡ (length xs == 0) → b ≡ true → xs ≡ []
none_there [] b is holds = refl
none_there (x ∷ xs) b is holds =
    absurd (let none = eqb-true (length (x ∷ xs)) 0 (sym is ∙ holds) in omega (arith, none))

nonempty-cond : (b : Bool) (x : ℕ) (xs : List ℕ) → is_nonempty (cond b (x ∷ xs) xs) ≡ (b || is_nonempty xs)
nonempty-cond true x xs = refl
nonempty-cond false x xs = refl

nonempty-filter : (p : ℕ → Bool) (xs : List ℕ) → is_nonempty (filter p xs) ≡ list_any p xs
nonempty-filter p [] = refl
nonempty-filter p (x ∷ xs) =
    nonempty-cond (p x) x (filter p xs) ∙ ap (λ b. p x || b) (nonempty-filter p xs)

pub places_are : (wanted seen : List (List ℕ)) → 0 < length wanted →
    positions wanted seen ≡ filter (starts_at wanted seen) (range_with_len 0 (length seen))
places_are [] seen some = absurd (omega (arith, some))
places_are (w ∷ ws) seen some = refl

pub occur_here : (wanted seen : List (List ℕ)) (j : ℕ) → 0 < length wanted → j < length seen →
    starts_at wanted seen j ≡ true → true ≡ is_nonempty (positions wanted seen)
occur_here wanted seen j some lt starts =
    let all = range_with_len 0 (length seen) in
    let within : j < length all = subst (λ n. j < n) (sym (length-range_with_len 0 (length seen))) lt in
    let e : 0 + j ≡ j = omega arith in
    sym (ap is_nonempty (places_are wanted seen some)
    ∙ nonempty-filter (starts_at wanted seen) all
    ∙ list_any_at (starts_at wanted seen) all j 0 within
    (ap (starts_at wanted seen) (get_or-range_with_len 0 (length seen) j 0 lt ∙ e) ∙ starts))

pub occur_nowhere : (wanted seen : List (List ℕ)) → 0 < length wanted →
    filter (starts_at wanted seen) (range_with_len 0 (length seen)) ≡ [] → false ≡ is_nonempty (positions wanted seen)
occur_nowhere wanted seen some none = sym (ap is_nonempty (places_are wanted seen some ∙ none))
