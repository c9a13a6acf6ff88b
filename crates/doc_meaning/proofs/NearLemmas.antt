-- A choice of one start of each child.
use Rattle.std.proofs.Common.{◌≡◌, ℕ, ◌+◌, ◌≤◌, ◌&&◌, ◌||◌, not, leb, Bool, true, false, List, [], ◌∷◌, map, All, Decides, refl, sym, ap, ◌∙◌, arith, le-leb, leb-true}
use Rattle.std.proofs.lemmas.Bool.{and_from, and_parts}
use Rattle.std.proofs.lemmas.Bool.Decides.{Decides-by_and}
use Rattle.std.proofs.lemmas.List.Folds.{Any-from_list_any, list_any-from_Any}
use Rattle.std.specs.List.{list_all, list_any}
use Rattle.doc_model.specs.declared.query.Query.{Query}
use Rattle.doc_model.specs.declared.query.Query.TheOpen.{Query-F}
use Rattle.doc_model.specs.declared.query.Query.TheFolds.{fold-roll-Query}
use Rattle.doc_model.specs.declared.query.Query.TheVariants as query
use Rattle.doc_model.specs.Documents.{PlainDocument}
use Rattle.doc_meaning.specs.declared.meaning.Meaning.{Meaning}
use Rattle.doc_meaning.specs.Laws.{NearHoldsFurther, NearIsAChoice}
use Rattle.doc_meaning.specs.Meaning.{meaning, meaning_step, satisfies}
use Rattle.doc_meaning.specs.Near.{ChoosesOne, IsNear, choices, is_near, is_rising, is_within}
use Rattle.doc_meaning.proofs.AnyLemmas.{any-flat_map, any-map, any_same}

-- some choice passes where, with some number of the first list, some choice of the others does
any_choice : (p : List ℕ → Bool) (ns : List ℕ) (rest : List (List ℕ)) →
    list_any p (choices (ns ∷ rest)) ≡ list_any (λ n. list_any (λ chosen. p (n ∷ chosen)) (choices rest)) ns
any_choice p ns rest =
    any-flat_map p (λ n. map (λ chosen. n ∷ chosen) (choices rest)) ns
    ∙ any_same _ _ (λ n. any-map p (λ chosen. n ∷ chosen) (choices rest)) ns

choice_of : (p : List ℕ → Bool) (children : List (List ℕ)) → list_any p (choices children) ≡ true →
    (chosen : List ℕ) × ChoosesOne chosen children × (p chosen ≡ true)
choice_of p [] some = ([], tt, or_false (p []) some)
  where
    or_false : (b : Bool) → (b || false) ≡ true → b ≡ true
    or_false true e = refl
    or_false false e = e
choice_of p (ns ∷ rest) some =
    let first = Any-from_list_any (λ n. list_any (λ chosen. p (n ∷ chosen)) (choices rest)) ns
    (sym (any_choice p ns rest) ∙ some) in
    let others = choice_of (λ chosen. p (first.1 ∷ chosen)) rest first.4 in
    (first.1 ∷ others.0, ((first.0, first.2, first.3), others.1), others.2)

choice_from : (p : List ℕ → Bool) (children : List (List ℕ)) (chosen : List ℕ) → ChoosesOne chosen children →
    p chosen ≡ true → list_any p (choices children) ≡ true
choice_from p [] [] one e = ap (λ b. b || false) e
choice_from p [] (n ∷ chosen) one e = absurd one
choice_from p (ns ∷ rest) [] one e = absurd one
choice_from p (ns ∷ rest) (n ∷ chosen) one e =
    any_choice p ns rest
    ∙ list_any-from_Any (λ m. list_any (λ others. p (m ∷ others)) (choices rest)) ns
    (one.0.0, n, one.0.1, one.0.2, choice_from (λ others. p (n ∷ others)) rest chosen one.1 e)

abbrev IsWithin : ℕ → List ℕ → Type 0
IsWithin distance ns = All (λ n. All (λ m. n ≤ m + distance) ns) ns

within_decides : (distance : ℕ) (ns : List ℕ) → Decides (is_within distance ns) (IsWithin distance ns)
within_decides distance ns =
    Decides-by_and (λ n. list_all (λ m. leb n (m + distance)) ns) (λ n. All (λ m. n ≤ m + distance) ns)
    (list_all (λ n. list_all (λ m. leb n (m + distance)) ns))
    (λ n. Decides-by_and (λ m. leb n (m + distance)) (λ m. n ≤ m + distance) (list_all (λ m. leb n (m + distance)))
    (λ m. (leb-true n (m + distance), le-leb n (m + distance))) refl (λ _ _. refl) ns)
    refl (λ _ _. refl) ns

rises_from : (ordered rising : Bool) → (ordered ≡ true → rising ≡ true) → (not ordered || rising) ≡ true
rises_from true rising h = h refl
rises_from false rising h = refl

rises_of : (ordered rising : Bool) → (not ordered || rising) ≡ true → ordered ≡ true → rising ≡ true
rises_of true rising h e = h
rises_of false rising h e = cc

module _ (distance : ℕ) (ordered : Bool) (children : List (List ℕ)) where
  abbrev is_close : List ℕ → Bool
  is_close chosen = is_within distance chosen && (not ordered || is_rising chosen)

  pub near_of : is_near distance ordered children ≡ true → IsNear distance ordered children
  unfolding is_near
  near_of near =
      let choice = choice_of is_close children near in
      let parts = and_parts (is_within distance choice.0) (not ordered || is_rising choice.0) choice.2 in
      record {
        chosen = choice.0;
        one_each = choice.1;
        close = (within_decides distance choice.0).0 parts.0;
        rises = rises_of ordered (is_rising choice.0) parts.1;
      }

  pub near_from : IsNear distance ordered children → is_near distance ordered children ≡ true
  unfolding is_near
  near_from near = choice_from is_close children near.chosen near.one_each
      (and_from _ _ ((within_decides distance near.chosen).1 near.close) (rises_from ordered (is_rising near.chosen) near.rises))

pub near_is_a_choice : NearIsAChoice
near_is_a_choice distance ordered children = (near_of distance ordered children, near_from distance ordered children)

further : (distance far : ℕ) (ordered : Bool) (children : List (List ℕ)) → distance ≤ far →
    IsNear distance ordered children → IsNear far ordered children
further distance far ordered children le near = record {
  chosen = near.chosen;
  one_each = near.one_each;
  close = λ k n in_k j m in_j. let close = near.close k n in_k j m in_j in omega arith;
  rises = near.rises;
}

sat_near : (queries : List Query) (distance : ℕ) (ordered : Bool) (d : PlainDocument) →
    satisfies (query.Near queries distance ordered) d ≡ is_near distance ordered (map (λ m. m.starts) (map (meaning d) queries))
sat_near queries distance ordered d =
    ap (λ q. satisfies q d) (sym (query.rolls-Near queries distance ordered)) ∙
    ap (λ m. m.holds) (fold-roll-Query Meaning (meaning_step d) (Query-F.Near queries distance ordered))

pub near_holds_further : NearHoldsFurther
near_holds_further queries distance far ordered d le holds =
    let children : List (List ℕ) = map (λ m. m.starts) (map (meaning d) queries) in
    sat_near queries far ordered d
    ∙ near_from far ordered children
    (further distance far ordered children le
    (near_of distance ordered children (sym (sat_near queries distance ordered d) ∙ holds)))
