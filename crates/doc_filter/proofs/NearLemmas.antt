-- Near by leaps, and over lists in another order.
use Rattle.std.proofs.Common.{◌≡◌, ℕ, ◌+◌, ◌-◌, ◌<◌, ◌≤◌, Bool, true, false, List, [], ◌∷◌, get_or, All, None, sym}
use Rattle.std.proofs.Common.{ap, ◌∙◌, subst, length, map, arith}
use Rattle.std.proofs.lemmas.List.{get_or-map, length-map}
use Rattle.std.proofs.lemmas.List.Elements.{All-nil, All-cons}
use Rattle.std.proofs.lemmas.List.Sorted.{Contains-permutation, IsPermutation-sym}
use Rattle.std.specs.List.{AllZip}
use Rattle.std.specs.List.Sorted.{IsNonDecreasing}
use Rattle.doc_meaning.specs.Near.{ChoosesOne, IsNear, is_near}
use Rattle.doc_meaning.proofs.NearLemmas.{near_from, near_of}
use Rattle.doc_filter.proofs.BoolLemmas.{is_false, same_truth}
use Rattle.doc_filter.specs.Windows.{FindsEnd, IsChoice, IsLeastEnd, IsSortedCopy}

module _ (distance : ℕ) (ordered : Bool) (children : List (List ℕ)) where
  -- no choice that will do has a number below
  abbrev pub NoneBelow : ℕ → Type 0
  NoneBelow low = (near : IsNear distance ordered children) → All (λ n. low ≤ n) near.chosen

  choice_of : (low : ℕ) (near : IsNear distance ordered children) → All (λ n. low ≤ n) near.chosen →
      IsChoice ordered low children near.chosen
  choice_of low near from = record { one_each = near.one_each; from = from; rises = near.rises }

  -- the least end is within the distance
  pub near_there : (low end : ℕ) → IsLeastEnd ordered low children end → end - low ≤ distance →
      true ≡ is_near distance ordered children
  near_there low end least within = sym (near_from distance ordered children (record {
    chosen = least.chosen;
    one_each = least.choice.one_each;
    close = λ k n in_k j m in_j. let high = least.within k n in_k in let from = least.choice.from j m in_j in
        omega (arith, high, from, within);
    rises = least.choice.rises;
  }))

  -- there is no end
  pub near_nowhere : (low : ℕ) → NoneBelow low → FindsEnd ordered low children None →
      false ≡ is_near distance ordered children
  near_nowhere low none_below none = is_false _ (λ is. let near = near_of distance ordered children is in
      none near.chosen (choice_of low near (none_below near)))

  -- a number further below the least end than the distance is close to no end
  pub leap : (low end : ℕ) → NoneBelow low → IsLeastEnd ordered low children end → NoneBelow (end - distance)
  leap low end none_below least near k d in_k =
      let n = get_or near.chosen k d in
      let within : All (λ m. m ≤ n + distance) near.chosen = λ j e in_j. near.close j e in_j k d in_k in
      let le = least.least near.chosen (n + distance) (choice_of low near (none_below near)) within in
      omega (arith, le)

-- no choice has a number of a list without any
chosen_somewhere : (chosen : List ℕ) (children : List (List ℕ)) → ChoosesOne chosen children →
    All (λ ns. ns ≡ [] → ⊥) children
chosen_somewhere [] [] one = All-nil (λ ns. ns ≡ [] → ⊥)
chosen_somewhere [] (ns ∷ children) one = absurd one
chosen_somewhere (n ∷ chosen) [] one = absurd one
chosen_somewhere (n ∷ chosen) (ns ∷ children) one =
    All-cons (λ ns. ns ≡ [] → ⊥) ns children
    (λ is. let lt = subst (λ xs. one.0.0 < length xs) is one.0.1 in omega (arith, lt))
    (chosen_somewhere chosen children one.1)

-- a child without starts is near nothing
pub near_without : {A : Type 0} (distance : ℕ) (ordered : Bool) (starts : A → List ℕ) (children items : List A) (i : ℕ)
    (child : A) → items ≡ children → i < length items → child ≡ get_or items i child → starts child ≡ [] →
    false ≡ is_near distance ordered (map starts children)
near_without {A} distance ordered starts children items i child same lt is none = is_false _
    (λ near_is. let near = near_of distance ordered (map starts children) near_is in
    let here = subst (λ (xs : List A). i < length xs) same lt in
    let child_is = subst (λ (xs : List A). child ≡ get_or xs i child) same is in
    let within = subst (λ n. i < n) (sym (length-map children starts)) here in
    chosen_somewhere near.chosen (map starts children) near.one_each i [] within
    (get_or-map starts children i child [] here ∙ ap starts (sym child_is) ∙ none))

abbrev pub AreSorted : List (List ℕ) → List (List ℕ) → Type 0
AreSorted = AllZip IsSortedCopy

pub all_in_order : (children sorted : List (List ℕ)) → AreSorted children sorted → All IsNonDecreasing sorted
all_in_order [] [] are = All-nil IsNonDecreasing
all_in_order [] (s ∷ sorted) are = absurd are
all_in_order (c ∷ children) [] are = absurd are
all_in_order (c ∷ children) (s ∷ sorted) are =
    All-cons IsNonDecreasing s sorted are.0.order (all_in_order children sorted are.1)

chosen_there : (chosen : List ℕ) (children sorted : List (List ℕ)) → AreSorted children sorted →
    ChoosesOne chosen children → ChoosesOne chosen sorted
chosen_there [] [] [] are one = one
chosen_there [] [] (s ∷ sorted) are one = absurd are
chosen_there [] (c ∷ children) sorted are one = absurd one
chosen_there (n ∷ chosen) [] sorted are one = absurd one
chosen_there (n ∷ chosen) (c ∷ children) [] are one = absurd are
chosen_there (n ∷ chosen) (c ∷ children) (s ∷ sorted) are one =
    (Contains-permutation c s n are.0.same one.0, chosen_there chosen children sorted are.1 one.1)

chosen_back : (chosen : List ℕ) (children sorted : List (List ℕ)) → AreSorted children sorted →
    ChoosesOne chosen sorted → ChoosesOne chosen children
chosen_back [] [] [] are one = one
chosen_back [] (c ∷ children) [] are one = absurd are
chosen_back [] children (s ∷ sorted) are one = absurd one
chosen_back (n ∷ chosen) children [] are one = absurd one
chosen_back (n ∷ chosen) [] (s ∷ sorted) are one = absurd are
chosen_back (n ∷ chosen) (c ∷ children) (s ∷ sorted) are one = (
  Contains-permutation s c n (IsPermutation-sym c s are.0.same) one.0,
  chosen_back chosen children sorted are.1 one.1,
)

-- near doesn't depend on the order of the starts
pub near_sorted : (distance : ℕ) (ordered : Bool) (children sorted : List (List ℕ)) → AreSorted children sorted →
    is_near distance ordered sorted ≡ is_near distance ordered children
near_sorted distance ordered children sorted are = same_truth _ _
    (λ is. let near = near_of distance ordered sorted is in
    near_from distance ordered children (record {
      chosen = near.chosen;
      one_each = chosen_back near.chosen children sorted are near.one_each;
      close = near.close;
      rises = near.rises;
    }))
    (λ is. let near = near_of distance ordered children is in
    near_from distance ordered sorted (record {
      chosen = near.chosen;
      one_each = chosen_there near.chosen children sorted are near.one_each;
      close = near.close;
      rises = near.rises;
    }))
