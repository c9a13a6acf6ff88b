-- Keys of which none is among those before it are the distinct ones.
use Rattle.std.proofs.Common.{◌≡◌, Bool, true, false, ◌&&◌, ◌||◌, not, List, [], ◌∷◌, ◌++◌, refl, sym, ap, ◌∙◌}
use Rattle.std.proofs.Common.{ℕ}
use Rattle.std.specs.List.{list_all, list_any}
use Rattle.std.specs.Str.{bytes_eq}
use Rattle.std.proofs.lemmas.Bool.{and_from, and_parts}
use Rattle.std.proofs.lemmas.List.Folds.{list_any-append}
use Rattle.doc_model.specs.Tree.{is_distinct}
use Rattle.docs_format.proofs.Seen.{bytes_eq-sym}

-- no key is among some others and the keys before it
abbrev pub fresh_of : {K : Type 0} → (K → K → Bool) → List K → List K → Bool
fresh_of eq before [] = true
fresh_of eq before (k ∷ ks) = not (list_any (eq k) before) && fresh_of eq (before ++ k ∷ []) ks

abbrev none_of : {K : Type 0} → (K → K → Bool) → List K → List K → Bool
none_of eq before [] = true
none_of eq before (k ∷ ks) = not (list_any (eq k) before) && none_of eq before ks

one_less : (a e n t : Bool) → (not (a || (e || false)) && (n && not t)) ≡ ((not a && n) && not (e || t))
one_less true e n t = refl
one_less false true true t = refl
one_less false true false t = refl
one_less false false true t = refl
one_less false false false t = refl

regroup : (a n t d : Bool) → (a && ((n && t) && d)) ≡ ((a && n) && (t && d))
regroup false n t d = refl
regroup true true t d = refl
regroup true false t d = refl

module _ {K : Type 0} (eq : K → K → Bool) (eq_sym : (a b : K) → eq a b ≡ eq b a) where
  none_push : (before : List K) (k : K) (ks : List K)
      → none_of eq (before ++ k ∷ []) ks ≡ (none_of eq before ks && not (list_any (eq k) ks))
  none_push before k [] = refl
  none_push before k (m ∷ ms) =
      rw (list_any-append (eq m) before (k ∷ []), none_push before k ms, eq_sym m k)
      (one_less (list_any (eq m) before) (eq k m) (none_of eq before ms) (list_any (eq k) ms))

  none_first : (ks : List K) → none_of eq [] ks ≡ true
  none_first [] = refl
  none_first (k ∷ ks) = none_first ks

  module _ (distinct : List K → Bool) (empty : distinct [] ≡ true)
      (next : (k : K) (ks : List K) → distinct (k ∷ ks) ≡ (not (list_any (eq k) ks) && distinct ks)) where
    pub fresh_is : (before ks : List K) → fresh_of eq before ks ≡ (none_of eq before ks && distinct ks)
    fresh_is before [] = sym empty
    fresh_is before (k ∷ ks) =
        rw (fresh_is (before ++ k ∷ []) ks, none_push before k ks, next k ks)
        (regroup (not (list_any (eq k) before)) (none_of eq before ks) (not (list_any (eq k) ks)) (distinct ks))

    pub distinct_is : (ks : List K) → fresh_of eq [] ks ≡ distinct ks
    distinct_is ks = fresh_is [] ks ∙ ap (λ (b : Bool). b && distinct ks) (none_first ks)

-- ---- names

abbrev pub fresh : List (List ℕ) → List (List ℕ) → Bool
fresh = fresh_of bytes_eq

pub fresh_names : (names : List (List ℕ)) → fresh [] names ≡ is_distinct names
fresh_names = distinct_is bytes_eq bytes_eq-sym is_distinct refl (λ k ks. refl)

pub fresh_distinct : (names : List (List ℕ)) → fresh [] names ≡ true → is_distinct names ≡ true
fresh_distinct names h = sym (fresh_names names) ∙ h

pub distinct_fresh : (names : List (List ℕ)) → is_distinct names ≡ true → fresh [] names ≡ true
distinct_fresh names h = fresh_names names ∙ h
