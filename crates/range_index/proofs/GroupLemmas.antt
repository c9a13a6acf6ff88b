-- The three groups of an index, and which rows they have.
use Rattle.std.proofs.Common.{◌≡◌, ℕ, ◌+◌, ◌-◌, ◌<◌, ◌≤◌, min, List, [], length, get_or, take, drop, Any, Contains, refl, sym, ap, ◌∙◌, subst, inl, inr, arith}
use Rattle.std.proofs.lemmas.Bool.{cases_lt}
use Rattle.std.proofs.lemmas.List.{drop-drop, get_or_default, get_or-drop, get_or-take, length-drop, length-take, take_rest}
use Rattle.std.specs.List.{zip}
use Rattle.std.specs.List.Sorted.{IsStrictlyIncreasing}
use Rattle.std.specs.declared.cmp.Ordering.{Ordering}
use Rattle.std.specs.declared.cmp.Ordering.TheVariants.{Less, Equal, Greater}
use Rattle.std.specs.Ordering.{ordering_index}
use Rattle.range_index.specs.Columns.{IsFirstFrom, IsIndex, IsGroup}
use Rattle.range_index.specs.Rows.{Row, value_cmp}
use Rattle.range_index.proofs.OrderLemmas.{equal_from_index, fragments_rise, greater_from_index, length-rows, less_from_index, row_at}

-- the fragments from one place on, so many of them
abbrev part : List ℕ → ℕ → ℕ → List ℕ
part xs from count = take count (drop from xs)

length-part : (xs : List ℕ) (from count : ℕ) → length (part xs from count) ≡ min count (length xs - from)
length-part xs from count = length-take count (drop from xs) ∙ ap (min count) (length-drop from xs)

get_or-part : (xs : List ℕ) (from count k d : ℕ) → k < count → get_or (part xs from count) k d ≡ get_or xs (from + k) d
get_or-part xs from count k d lt = get_or-take count (drop from xs) k d lt ∙ get_or-drop from xs k d

-- a place within
abbrev Within : ℕ → ℕ → ℕ → Type 0
Within from count k = (from ≤ k) × (k < from + count)

module _ (values : List (List ℕ)) (fragments : List ℕ) (index : IsIndex values fragments) (given : List ℕ) where
  -- how the value at a place compares
  abbrev order_at : ℕ → Ordering
  order_at k = value_cmp (get_or values k []) given

  module _ (order : Ordering) (from count : ℕ)
      (within : (k : ℕ) → k < length values → Within from count k → order_at k ≡ order)
      (outside : (k : ℕ) → k < length values → order_at k ≡ order → Within from count k) where
    has_row : (fragment : ℕ) → Contains (part fragments from count) fragment →
        Any (λ (row : Row). (value_cmp row.0 given ≡ order) × (row.1 ≡ fragment)) (zip values fragments)
    has_row fragment within_part =
        let k = within_part.0 in
        let lt = within_part.1 in
        let long = length-part fragments from count in
        let below : k < count = omega (arith, lt, long) in
        let place : from + k < length values = omega (arith, lt, long, index.paired) in
        let value = get_or values (from + k) [] in
        let lt' : from + k < length (zip values fragments) =
        omega (arith, place, length-rows values fragments index.paired) in
        let same = get_or_default values (from + k) value [] place in
        let read = sym (get_or-part fragments from count k fragment below) ∙ within_part.2 in (
          from + k,
          (value, fragment),
          lt',
          row_at values fragments index.paired (from + k) value fragment place
              ∙ ap (λ v. (v, get_or fragments (from + k) fragment)) same ∙ ap (λ n. (value, n)) read,
          (within (from + k) place (omega arith, omega (arith, below)), refl),
        )

    has_fragment : (fragment : ℕ) →
        Any (λ (row : Row). (value_cmp row.0 given ≡ order) × (row.1 ≡ fragment)) (zip values fragments) →
        Contains (part fragments from count) fragment
    has_fragment fragment at =
        let k = at.0 in
        let row = at.1 in
        let place : k < length values = omega (arith, at.2, length-rows values fragments index.paired) in
        let read = sym (row_at values fragments index.paired k row.0 row.1 place) ∙ at.3 in
        let value = get_or_default values k row.0 [] place in
        let found = ap (λ v. value_cmp v given) (sym value ∙ ap (λ (r : Row). r.0) read) ∙ at.4.0 in
        let inside = outside k place found in
        let back : from + (k - from) ≡ k = omega (arith, inside.0) in
        let below : k - from < count = omega (arith, inside.0, inside.1) in
        let long = length-part fragments from count in (
          k - from,
          omega (arith, below, long, place, index.paired, inside.0),
          get_or-part fragments from count (k - from) fragment below
              ∙ ap (λ n. get_or fragments n fragment) back
              ∙ subst (λ n. get_or fragments k n ≡ n) at.4.1 (ap (λ (r : Row). r.1) read),
        )

    is_group : IsGroup (zip values fragments) given order (part fragments from count)
    is_group fragment = (has_row fragment, has_fragment fragment)

  module _ (start end : ℕ) (first : IsFirstFrom values given Equal start)
      (second : IsFirstFrom values given Greater end) where
    less_at : (k : ℕ) → k < start → order_at k ≡ Less
    less_at k lt = less_from_index (order_at k) (first.1.0 k [] (omega arith) lt)

    not_less_at : (k : ℕ) → start ≤ k → k < length values → ordering_index Equal ≤ ordering_index (order_at k)
    not_less_at k le lt = first.1.1 k [] le lt

    not_greater_at : (k : ℕ) → k < end → ordering_index (order_at k) < ordering_index Greater
    not_greater_at k lt = second.1.0 k [] (omega arith) lt

    greater_at : (k : ℕ) → end ≤ k → k < length values → order_at k ≡ Greater
    greater_at k le lt = greater_from_index (order_at k) (second.1.1 k [] le lt)

    -- what compares as `from` or higher begins no later
    in_order : start ≤ end
    in_order = elim (cases_lt end start) [
      | inl lt ↦
          let within : end < length values = omega (arith, lt, first.0) in
          let less = ap ordering_index (less_at end lt) in
          let greater = ap ordering_index (greater_at end (omega arith) within) in
          absurd (omega (arith, less, greater))
      | inr le ↦ le
    ]

    below_start : (k : ℕ) → k < length values → order_at k ≡ Less → k < start
    below_start k lt is = elim (cases_lt k start) [
      | inl below ↦ below
      | inr le ↦ absurd (omega (arith, not_less_at k le lt, ap ordering_index is))
    ]

    from_start : (k : ℕ) → order_at k ≡ Equal → start ≤ k
    from_start k is = elim (cases_lt k start) [
      | inl below ↦ absurd (omega (arith, ap ordering_index (less_at k below), ap ordering_index is))
      | inr le ↦ le
    ]

    below_end : (k : ℕ) → k < length values → order_at k ≡ Equal → k < end
    below_end k lt is = elim (cases_lt k end) [
      | inl below ↦ below
      | inr le ↦ absurd (omega (arith, ap ordering_index (greater_at k le lt), ap ordering_index is))
    ]

    from_end : (k : ℕ) → order_at k ≡ Greater → end ≤ k
    from_end k is = elim (cases_lt k end) [
      | inl below ↦ absurd (omega (arith, not_greater_at k below, ap ordering_index is))
      | inr le ↦ le
    ]

    equal_at : (k : ℕ) → k < length values → start ≤ k → k < end → order_at k ≡ Equal
    equal_at k lt le below = equal_from_index (order_at k) (not_less_at k le lt) (not_greater_at k below)

    group_below : IsGroup (zip values fragments) given Less (take start fragments)
    group_below =
        is_group Less 0 start (λ k lt inside. less_at k (omega (arith, inside.1)))
        (λ k lt is. (omega arith, omega (arith, below_start k lt is)))

    group_equal : IsGroup (zip values fragments) given Equal (take (end - start) (drop start fragments))
    group_equal =
        is_group Equal start (end - start)
        (λ k lt inside. equal_at k lt inside.0 (omega (arith, inside.0, inside.1)))
        (λ k lt is. (from_start k is, omega (arith, in_order, from_start k is, below_end k lt is)))

    group_above : IsGroup (zip values fragments) given Greater (part fragments end (length fragments - end))
    group_above =
        is_group Greater end (length fragments - end) (λ k lt inside. greater_at k inside.0 lt)
        (λ k lt is. (from_end k is, omega (arith, index.paired, lt, from_end k is)))

    equal_rises : IsStrictlyIncreasing (take (end - start) (drop start fragments))
    equal_rises k lt =
        let long = length-part fragments start (end - start) in
        let here : k < end - start = omega (arith, lt, long) in
        let next : k + 1 < end - start = omega (arith, lt, long) in
        let place : start + k < length values = omega (arith, lt, long, index.paired) in
        let place' : (start + k) + 1 < length values = omega (arith, lt, long, index.paired) in
        let equal = equal_at (start + k) place (omega arith) (omega (arith, here)) in
        let equal' = equal_at ((start + k) + 1) place' (omega arith) (omega (arith, next)) in
        let rise = fragments_rise values fragments index.paired index.rising given (start + k) place' equal equal' in
        let read = get_or-part fragments start (end - start) k 0 here in
        let read' = get_or-part fragments start (end - start) (k + 1) 0 next in
        let shift : start + (k + 1) ≡ (start + k) + 1 = omega arith in
        omega (arith, read, read' ∙ ap (λ n. get_or fragments n 0) shift, rise)

    pub groups_are : (rows : List Row) → zip values fragments ≡ rows → (all below others equal above : List ℕ) →
        all ≡ fragments → below ≡ take start all → others ≡ drop start all → equal ≡ take (end - start) others →
        above ≡ drop (end - start) others →
        IsGroup rows given Less below × IsGroup rows given Equal equal × IsGroup rows given Greater above
        × IsStrictlyIncreasing equal
    groups_are rows view all below others equal above all_is below_is others_is equal_is above_is =
        let below_is' = below_is ∙ ap (take start) all_is in
        let others_is' = others_is ∙ ap (drop start) all_is in
        let equal_is' = equal_is ∙ ap (take (end - start)) others_is' in
        let shift : start + (end - start) ≡ end = omega (arith, in_order) in
        let above_is' = above_is ∙ ap (drop (end - start)) others_is' ∙ drop-drop (end - start) start fragments
        ∙ ap (λ n. drop n fragments) shift ∙ sym (take_rest fragments end) in (
          subst (λ r. IsGroup r given Less below) view
              (subst (IsGroup (zip values fragments) given Less) (sym below_is') group_below),
          subst (λ r. IsGroup r given Equal equal) view
              (subst (IsGroup (zip values fragments) given Equal) (sym equal_is') group_equal),
          subst (λ r. IsGroup r given Greater above) view
              (subst (IsGroup (zip values fragments) given Greater) (sym above_is') group_above),
          subst IsStrictlyIncreasing (sym equal_is') equal_rises,
        )
