-- The first kind that passes a test, among all and among each once.
use Rattle.std.proofs.Common.{◌≡◌, ℕ, ◌+◌, ◌<◌, ◌++◌, append_assoc, add-one, suc, Bool, true, false, cond, Option, Some, List, [], ◌∷◌, drop, get_or, length, map, not, refl, sym, ap, ◌∙◌}
use Rattle.std.proofs.Math.Seq.{drop-cons}
use Rattle.std.proofs.lemmas.List.Folds.{find-append}
use Rattle.std.specs.List.{cons_option, find}
use Rattle.std.specs.Option.{option_map, option_or}
use Rattle.doc_model.specs.declared.indexes.Kind.{Kind}
use Rattle.doc_model.specs.declared.scalar.Scalar.{Scalar}
use Rattle.doc_model.specs.Kinds.{FindAlike}
use Rattle.doc_model.specs.Queries.{Index, is_indexed, kind_of, kinds_of}

find-map : {X A : Type 0} (f : X → A) (test : A → Bool) (xs : List X) →
    find test (map f xs) ≡ option_map f (find (λ x. test (f x)) xs)
find-map f test [] = refl
find-map f test (x ∷ xs) =
    elim (test (f x)) as (λ b. cond b (Some (f x)) (find test (map f xs)) ≡ option_map f
    (cond b (Some x) (find (λ x. test (f x)) xs))) [
      | true ↦ refl
      | false ↦ find-map f test xs
    ]

-- one name with each kind
pub missing_alike : (indexes : List Index) (name : List ℕ) (ks all : List Kind) → FindAlike ks all →
    find (λ index. not (is_indexed indexes index)) (map (λ k. (name, k)) ks) ≡ find
    (λ index. not (is_indexed indexes index)) (map (λ k. (name, k)) all)
missing_alike indexes name ks all alike =
    find-map (λ k. (name, k)) (λ index. not (is_indexed indexes index)) ks
    ∙ ap (option_map (λ k. (name, k))) (alike (λ k. not (is_indexed indexes (name, k))))
    ∙ sym (find-map (λ k. (name, k)) (λ index. not (is_indexed indexes index)) all)

-- with more behind
alike_before : (ks all more : List Kind) → FindAlike ks all → FindAlike (ks ++ more) (all ++ more)
alike_before ks all more alike test =
    find-append test ks more ∙ ap (λ o. option_or o (find test more)) (alike test) ∙ sym (find-append test all more)

-- the kinds with one more, and what is left without it
pub grown : (new old : List Kind) (k : Kind) (rest from all : List Kind) → FindAlike new (old ++ k ∷ []) →
    from ≡ k ∷ rest → FindAlike (old ++ from) all →
    FindAlike (new ++ rest) all
grown new old k rest from all alike is told test =
    alike_before new (old ++ k ∷ []) rest alike test ∙ ap (find test) (append_assoc old (k ∷ []) rest) ∙
    ap (λ ks. find test (old ++ ks)) (sym is) ∙ told test

-- the kinds of the values from one on
pub kinds_from : (values : List Scalar) (i : ℕ) (x : Scalar) (k : Option Kind) → i < length values →
    x ≡ get_or values i x → kind_of x ≡ k →
    kinds_of (drop i values) ≡ cons_option k (kinds_of (drop (i + 1) values))
kinds_from values i x k lt is kind =
    ap kinds_of (drop-cons values i x lt) ∙ ap (λ v. cons_option (kind_of v) (kinds_of (drop (suc i) values))) (sym is)
    ∙ ap (λ o. cons_option o (kinds_of (drop (suc i) values))) kind ∙
    ap (λ n. cons_option k (kinds_of (drop n values))) (sym (add-one i))
