-- What a filter lets through are the documents that satisfy its query.
use Rattle.std.proofs.Common.{◌≡◌, ℕ, Bool, cond, List, [], ◌∷◌, map, filter, refl, ap, ◌∙◌}
use Rattle.doc_model.specs.declared.query.Query.{Query}
use Rattle.doc_meaning.specs.declared.version.Version.{Version}
use Rattle.doc_meaning.specs.Answers.{matching}
use Rattle.doc_meaning.specs.Meaning.{satisfies}
use Rattle.doc_filter.specs.declared.filter.Filter.{Filter}
use Rattle.doc_filter.specs.Filters.{FiltersBy, lets_through}

-- the URIs of the documents that a filter lets through
abbrev pub passing : List (List ℕ × Version) → Filter → List (List ℕ)
passing found f = map (λ e. e.0) (filter (λ e. lets_through f e.1.document) found)

filter_same : {A : Type 0} (p q : A → Bool) → ((x : A) → p x ≡ q x) → (xs : List A) → filter p xs ≡ filter q xs
filter_same p q same [] = refl
filter_same p q same (x ∷ xs) =
    ap (λ b. cond b (x ∷ filter p xs) (filter p xs)) (same x)
    ∙ ap (λ ys. cond (q x) (x ∷ ys) ys) (filter_same p q same xs)

pub passing_is : (found : List (List ℕ × Version)) (f : Filter) (q : Query) → FiltersBy f q →
    passing found f ≡ matching found q
passing_is found f q held =
    ap (map (λ e. e.0))
    (filter_same (λ e. lets_through f e.1.document) (λ e. satisfies q e.1.document) (λ e. held e.1.document) found)
