-- The order of rows, of their values, and of what values compare as.
use Rattle.std.proofs.Common.{◌≡◌, ℕ, ◌+◌, ◌<◌, ◌≤◌, ◌^◌, false, List, [], ◌∷◌, ◌++◌, length, map, get_or, refl, sym, ap, ◌∙◌, subst, arith}
use Rattle.std.proofs.lemmas.Cmp.{nat_list_cmp_total, ranked, tied_back}
use Rattle.std.proofs.lemmas.List.{append-nil, length-map}
use Rattle.std.proofs.lemmas.Slice.Zip.{get_or-zip, length-zip}
use Rattle.std.specs.List.{zip}
use Rattle.std.specs.declared.cmp.Ordering.{Ordering}
use Rattle.std.specs.declared.cmp.Ordering.TheVariants.{Less, Equal, Greater}
use Rattle.std.specs.Ordering.{is_lt, nat_cmp, ordering_index, ordering_reverse, ordering_then}
use Rattle.range_index.specs.Columns.{IsIndex, NeverFall}
use Rattle.range_index.specs.Rows.{IsRising, Row, row_cmp, value_cmp}

-- what compares lower than `Equal`, as that, or as `Greater`
pub less_from_index : (o : Ordering) → ordering_index o < ordering_index Equal → o ≡ Less
less_from_index Less lt = refl
less_from_index Equal lt = absurd (omega arith)
less_from_index Greater lt = absurd (omega arith)

pub equal_from_index : (o : Ordering) → ordering_index Equal ≤ ordering_index o →
    ordering_index o < ordering_index Greater → o ≡ Equal
equal_from_index Less le lt = absurd (omega arith)
equal_from_index Equal le lt = refl
equal_from_index Greater le lt = absurd (omega arith)

pub greater_from_index : (o : Ordering) → ordering_index Greater ≤ ordering_index o → o ≡ Greater
greater_from_index Less le = absurd (omega arith)
greater_from_index Equal le = absurd (omega arith)
greater_from_index Greater le = refl

not_less_back : (o back then' : Ordering) → back ≡ ordering_reverse o → ordering_then o then' ≡ Less →
    is_lt back ≡ false
not_less_back Less back then' is less = ap is_lt is
not_less_back Equal back then' is less = ap is_lt is
not_less_back Greater back then' is less = cc

-- a row's value isn't less than that of a row before
value_not_less : (a b : Row) → row_cmp a b ≡ Less → is_lt (value_cmp b.0 a.0) ≡ false
value_not_less a b less =
    not_less_back (value_cmp a.0 b.0) (value_cmp b.0 a.0) (nat_cmp a.1 b.1) (nat_list_cmp_total.antisymm b.0 a.0) less

-- of two rows whose values compare equal to one, the first has the lesser fragment
lesser_fragment : (a b : Row) (given : List ℕ) → value_cmp a.0 given ≡ Equal → value_cmp b.0 given ≡ Equal →
    row_cmp a b ≡ Less → a.1 < b.1
lesser_fragment a b given a_is b_is less =
    let back = tied_back nat_list_cmp_total b.0 given b_is in
    let tied = nat_list_cmp_total.congr a.0 given b.0 a_is ∙ back in
    ranked a.1 b.1 Less (sym less ∙ ap (λ o. ordering_then o (nat_cmp a.1 b.1)) tied)

module _ (values : List (List ℕ)) (fragments : List ℕ) (paired : length fragments ≡ length values) where
  -- the row at a place
  pub row_at : (k : ℕ) (value : List ℕ) (fragment : ℕ) → k < length values →
      get_or (zip values fragments) k (value, fragment) ≡ (get_or values k value, get_or fragments k fragment)
  row_at k value fragment lt = get_or-zip values fragments k (value, fragment) lt (omega (arith, lt, paired))

  pub length-rows : length (zip values fragments) ≡ length values
  length-rows = omega (arith, length-zip values fragments, paired)

  next_row : IsRising (zip values fragments) → (k : ℕ) (value : List ℕ) (fragment : ℕ) → k + 1 < length values →
      row_cmp (get_or values k value, get_or fragments k fragment)
      (get_or values (k + 1) value, get_or fragments (k + 1) fragment) ≡ Less
  next_row rising k value fragment lt =
      let lt' : k + 1 < length (zip values fragments) = omega (arith, lt, length-rows) in
      let here : k < length values = omega (arith, lt) in
      ap (λ row. row_cmp row (get_or values (k + 1) value, get_or fragments (k + 1) fragment))
      (sym (row_at k value fragment here))
      ∙ ap (row_cmp (get_or (zip values fragments) k (value, fragment))) (sym (row_at (k + 1) value fragment lt))
      ∙ rising k (value, fragment) lt'

  pub values_never_fall : IsRising (zip values fragments) → NeverFall values
  values_never_fall rising k value low lt =
      value_not_less (get_or values k value, get_or fragments k 0)
      (get_or values (k + 1) value, get_or fragments (k + 1) 0)
      (next_row rising k value 0 lt)

  -- the fragments of equal values rise
  pub fragments_rise : IsRising (zip values fragments) → (given : List ℕ) (k : ℕ) → k + 1 < length values →
      value_cmp (get_or values k []) given ≡ Equal → value_cmp (get_or values (k + 1) []) given ≡ Equal →
      get_or fragments k 0 < get_or fragments (k + 1) 0
  fragments_rise rising given k lt here next =
      lesser_fragment (get_or values k [], get_or fragments k 0) (get_or values (k + 1) [], get_or fragments (k + 1) 0)
      given here next (next_row rising k [] 0 lt)

-- rows are their two columns
zip-columns : (rows : List Row) → zip (map (λ (row : Row). row.0) rows) (map (λ (row : Row). row.1) rows) ≡ rows
zip-columns [] = refl
zip-columns (row ∷ rows) = ap (λ rest. row ∷ rest) (zip-columns rows)

-- what was moved of all rows once none is left
pub columns_are : (rows left : List Row) (values : List (List ℕ)) (fragments : List ℕ) → left ≡ [] →
    values ++ map (λ (row : Row). row.0) left ≡ map (λ (row : Row). row.0) rows →
    fragments ++ map (λ (row : Row). row.1) left ≡ map (λ (row : Row). row.1) rows →
    (values ≡ map (λ (row : Row). row.0) rows) × (fragments ≡ map (λ (row : Row). row.1) rows)
columns_are rows left values fragments none values_are fragments_are = (
  sym (append-nil values) ∙ ap (λ l. values ++ map (λ (row : Row). row.0) l) (sym none) ∙ values_are,
  sym (append-nil fragments) ∙ ap (λ l. fragments ++ map (λ (row : Row). row.1) l) (sym none) ∙ fragments_are,
)

pub rows_are : (rows : List Row) (values : List (List ℕ)) (fragments : List ℕ) →
    values ≡ map (λ (row : Row). row.0) rows → fragments ≡ map (λ (row : Row). row.1) rows → zip values fragments ≡ rows
rows_are rows values fragments values_are fragments_are =
    ap (λ v. zip v fragments) values_are ∙ ap (zip (map (λ (row : Row). row.0) rows)) fragments_are ∙ zip-columns rows

pub index_is : (rows : List Row) (values : List (List ℕ)) (fragments : List ℕ) →
    values ≡ map (λ (row : Row). row.0) rows → fragments ≡ map (λ (row : Row). row.1) rows →
    IsRising rows → length rows < 2 ^ 32 → IsIndex values fragments
index_is rows values fragments values_are fragments_are rising few =
    let value_count = ap length values_are ∙ length-map rows (λ (row : Row). row.0) in
    let fragment_count = ap length fragments_are ∙ length-map rows (λ (row : Row). row.1) in
    record {
      paired = fragment_count ∙ sym value_count;
      rising = subst IsRising (sym (rows_are rows values fragments values_are fragments_are)) rising;
      few = omega (arith, fragment_count, few);
    }
