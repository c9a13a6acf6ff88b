-- What an operator finds, in one group of rows or in two.
use Rattle.std.proofs.Common.{◌≡◌, ◌⊎◌, ℕ, List, [], true, IsTrue, Contains, refl, ap, inl, inr, arith}
use Rattle.std.specs.List.Sorted.{IsStrictlyIncreasing}
use Rattle.std.specs.declared.cmp.Ordering.{Ordering}
use Rattle.std.specs.declared.cmp.Ordering.TheVariants.{Less, Equal, Greater}
use Rattle.std.specs.Ordering.{is_lt, is_le, is_gt, is_ge, is_eq, is_ne}
use Rattle.range_index.specs.Columns.{IsGroup, JoinsOnce}
use Rattle.range_index.specs.Rows.{FindsFragments, HasRow, Row, compares, value_cmp}
use Rattle.range_index.specs.declared.compare.Compare.{Compare}
use Rattle.range_index.specs.declared.compare.Compare.TheVariants.{Lt, Le, Gt, Ge, Eq, Ne}

-- the order that each test asks for
is_less : (o : Ordering) → is_lt o ≡ true → o ≡ Less
is_less Less is = refl
is_less Equal is = cc
is_less Greater is = cc

is_at_most : (o : Ordering) → is_le o ≡ true → (o ≡ Less) ⊎ (o ≡ Equal)
is_at_most Less is = inl refl
is_at_most Equal is = inr refl
is_at_most Greater is = cc

is_greater : (o : Ordering) → is_gt o ≡ true → o ≡ Greater
is_greater Less is = cc
is_greater Equal is = cc
is_greater Greater is = refl

is_at_least : (o : Ordering) → is_ge o ≡ true → (o ≡ Equal) ⊎ (o ≡ Greater)
is_at_least Less is = cc
is_at_least Equal is = inl refl
is_at_least Greater is = inr refl

is_equal : (o : Ordering) → is_eq o ≡ true → o ≡ Equal
is_equal Less is = cc
is_equal Equal is = refl
is_equal Greater is = cc

is_other : (o : Ordering) → is_ne o ≡ true → (o ≡ Less) ⊎ (o ≡ Greater)
is_other Less is = inl refl
is_other Equal is = cc
is_other Greater is = inr refl

module _ (rows : List Row) (given : List ℕ) (op : Compare) where
  -- the operator asks for an order
  abbrev Takes : Ordering → Type 0
  Takes order = (value : List ℕ) → value_cmp value given ≡ order → IsTrue (compares op value given)

  from_group : (order : Ordering) (group : List ℕ) → IsGroup rows given order group → Takes order →
      (fragment : ℕ) → Contains group fragment → HasRow rows op given fragment
  from_group order group is takes fragment within =
      let row = (is fragment).0 within in
      (row.0, row.1, row.2, row.3, (takes row.1.0 row.4.0, row.4.1))

  in_group : (order : Ordering) (group : List ℕ) → IsGroup rows given order group →
      (fragment : ℕ) (row : HasRow rows op given fragment) → value_cmp row.1.0 given ≡ order → Contains group fragment
  in_group order group is fragment row at = (is fragment).1 (row.0, row.1, row.2, row.3, (at, row.4.1))

  -- the rows of one order, which needs no sort
  found_as_is : (order : Ordering) (group : List ℕ) → IsGroup rows given order group → IsStrictlyIncreasing group →
      Takes order →
      ((value : List ℕ) → IsTrue (compares op value given) → value_cmp value given ≡ order) →
      FindsFragments rows op given group
  found_as_is order group is rising takes asks = record {
    members = λ fragment. (
      from_group order group is takes fragment,
      λ row. in_group order group is fragment row (asks row.1.0 row.4.0),
    );
    rising = rising;
  }

  -- the rows of one order
  found_in_one : (order : Ordering) (group found : List ℕ) → IsGroup rows given order group → JoinsOnce group [] found →
      Takes order → ((value : List ℕ) → IsTrue (compares op value given) → value_cmp value given ≡ order) →
      FindsFragments rows op given found
  found_in_one order group found is joins takes asks = record {
    members = λ fragment. (
      λ within. elim ((joins.members fragment).0 within) [
        | inl here ↦ from_group order group is takes fragment here
        | inr none ↦ absurd (omega (arith, none.1))
      ],
      λ row. (joins.members fragment).1 (inl (in_group order group is fragment row (asks row.1.0 row.4.0))),
    );
    rising = joins.rising;
  }

  -- the rows of two orders
  found_in_two : (first second : Ordering) (front back found : List ℕ) → IsGroup rows given first front →
      IsGroup rows given second back → JoinsOnce front back found → Takes first → Takes second →
      ((value : List ℕ) → IsTrue (compares op value given) →
      (value_cmp value given ≡ first) ⊎ (value_cmp value given ≡ second)) →
      FindsFragments rows op given found
  found_in_two first second front back found is_front is_back joins takes_first takes_second asks = record {
    members = λ fragment. (
      λ within. elim ((joins.members fragment).0 within) [
        | inl here ↦ from_group first front is_front takes_first fragment here
        | inr here ↦ from_group second back is_back takes_second fragment here
      ],
      λ row. (joins.members fragment).1 (elim (asks row.1.0 row.4.0) [
        | inl at ↦ inl (in_group first front is_front fragment row at)
        | inr at ↦ inr (in_group second back is_back fragment row at)
      ]),
    );
    rising = joins.rising;
  }

module _ (rows : List Row) (given : List ℕ) where
  pub found_less : (group found : List ℕ) → IsGroup rows given Less group → JoinsOnce group [] found →
      FindsFragments rows Lt given found
  found_less group found is joins =
      found_in_one rows given Lt Less group found is joins (λ value at. ap is_lt at)
      (λ value asks. is_less (value_cmp value given) asks)

  pub found_at_most : (below equal found : List ℕ) → IsGroup rows given Less below → IsGroup rows given Equal equal →
      JoinsOnce below equal found → FindsFragments rows Le given found
  found_at_most below equal found is_below is_same joins =
      found_in_two rows given Le Less Equal below equal found is_below is_same joins (λ value at. ap is_le at)
      (λ value at. ap is_le at) (λ value asks. is_at_most (value_cmp value given) asks)

  pub found_greater : (group found : List ℕ) → IsGroup rows given Greater group → JoinsOnce group [] found →
      FindsFragments rows Gt given found
  found_greater group found is joins =
      found_in_one rows given Gt Greater group found is joins (λ value at. ap is_gt at)
      (λ value asks. is_greater (value_cmp value given) asks)

  pub found_at_least : (equal above found : List ℕ) →
      IsGroup rows given Equal equal → IsGroup rows given Greater above →
      JoinsOnce equal above found → FindsFragments rows Ge given found
  found_at_least equal above found is_same is_above joins =
      found_in_two rows given Ge Equal Greater equal above found is_same is_above joins (λ value at. ap is_ge at)
      (λ value at. ap is_ge at) (λ value asks. is_at_least (value_cmp value given) asks)

  pub found_equal : (group : List ℕ) → IsGroup rows given Equal group → IsStrictlyIncreasing group →
      FindsFragments rows Eq given group
  found_equal group is rising =
      found_as_is rows given Eq Equal group is rising (λ value at. ap is_eq at)
      (λ value asks. is_equal (value_cmp value given) asks)

  pub found_other : (below above found : List ℕ) → IsGroup rows given Less below → IsGroup rows given Greater above →
      JoinsOnce below above found → FindsFragments rows Ne given found
  found_other below above found is_below is_above joins =
      found_in_two rows given Ne Less Greater below above found is_below is_above joins (λ value at. ap is_ne at)
      (λ value at. ap is_ne at) (λ value asks. is_other (value_cmp value given) asks)
