-- An estimate counts each document of the answer.
use Rattle.std.proofs.Common.{◌≡◌, ℕ, ◌≤◌, Bool, true, false, cond, List, [], ◌∷◌, filter, length, refl, sym, arith, true≢false}
use Rattle.std.proofs.lemmas.List.{length-map}
use Rattle.std.specs.FinMap.{entries}
use Rattle.doc_meaning.specs.Estimates.{maybe}
use Rattle.doc_meaning.specs.History.{database_at}
use Rattle.doc_meaning.specs.Laws.{EstimateIsNoLess}
use Rattle.doc_meaning.specs.Meaning.{satisfies}
use Rattle.doc_meaning.specs.declared.version.Version.{Version}
use Rattle.doc_meaning.proofs.BoundsLemmas.{satisfies_maybe}

one_more : {X : Type 0} (x : X) (xs ys : List X) (a b : Bool) → (a ≡ true → b ≡ true) → length xs ≤ length ys →
    length (cond a (x ∷ xs) xs) ≤ length (cond b (x ∷ ys) ys)
one_more x xs ys true true weaker le = omega arith
one_more x xs ys true false weaker le = absurd (true≢false (sym (weaker refl)))
one_more x xs ys false true weaker le = omega arith
one_more x xs ys false false weaker le = le

keeps_more : {X : Type 0} (p q : X → Bool) → ((x : X) → p x ≡ true → q x ≡ true) → (xs : List X) →
    length (filter p xs) ≤ length (filter q xs)
keeps_more p q weaker [] = omega arith
keeps_more p q weaker (x ∷ xs) = one_more x (filter p xs) (filter q xs) (p x) (q x) (weaker x) (keeps_more p q weaker xs)

pub estimate_is_no_less : EstimateIsNoLess
estimate_is_no_less h at q indexes keeps =
    let found : List (List ℕ × Version) = entries (database_at h at) in
    let fewer : length (filter (λ e. satisfies q e.1.document) found) ≤ length (filter (λ e. maybe q e.1.document) found) =
    keeps_more (λ e. satisfies q e.1.document) (λ e. maybe q e.1.document) (λ e. satisfies_maybe q indexes e.1.document keeps) found in
    rw (length-map (filter (λ e. satisfies q e.1.document) found) (λ e. e.0)) fewer
