-- The rows between an insertion point and an end are those with the property that compares as equal.
use Rattle.std.proofs.Common.{◌≡◌, ℕ, ◌≤◌, List, [], ⊎_elim, get_or, ap, sym, ◌∙◌, arith}
use Rattle.std.specs.Cmp.Lexicographic.{slice_cmp}
use Rattle.std.specs.Ordering.{is_le, is_lt, nat_cmp}
use Rattle.std.specs.declared.cmp.Ordering.{Ordering}
use Rattle.std.specs.declared.cmp.Ordering.TheVariants.{Equal, Less}
use Rattle.std.proofs.lemmas.Bool.{cases_lt, false≢true}
use Rattle.uri_table.specs.Rows.{Row, IsLess, HasPrefix, HasUri, IsInsertionPoint, IsRun}
use Rattle.uri_table.specs.Ends.{IsEndOf, head_order, uri_order}
use Rattle.uri_table.proofs.Orders.{begins, begins_back, equal_is, equal_itself, head_less, less_is, same_text}

-- the order of rows by a text tells the lesser URIs, and those with the property
pub record Tells (text : List ℕ) (order : Row → Ordering) (Has : Row → Type 0) : Type 0 where
  pub less : (row : Row) → IsLess row.0 text → order row ≡ Less
  pub less_back : (row : Row) → order row ≡ Less → IsLess row.0 text
  pub equal : (row : Row) → Has row → order row ≡ Equal
  pub equal_back : (row : Row) → order row ≡ Equal → Has row

pub uri_tells : (uri : List ℕ) → Tells uri (uri_order uri) (HasUri uri)
uri_tells uri = record {
  less = λ row less. less;
  less_back = λ row less. less;
  equal = λ row same. ap (λ text. slice_cmp nat_cmp text uri) same ∙ equal_itself uri;
  equal_back = λ row equal. same_text row.0 uri equal;
}

pub head_tells : (prefix : List ℕ) → Tells prefix (head_order prefix) (HasPrefix prefix)
head_tells prefix = record {
  less = λ row less. less_is _ (head_less prefix row.0 ∙ ap is_lt less);
  less_back = λ row less. less_is _ (sym (head_less prefix row.0) ∙ ap is_lt less);
  equal = λ row has. begins_back prefix row.0 has.0 has.1;
  equal_back = λ row equal. begins prefix row.0 equal;
}

less_not_equal : Less ≡ Equal → ⊥
less_not_equal e = cc

module _ (text : List ℕ) (order : Row → Ordering) (Has : Row → Type 0) (tells : Tells text order Has)
    (rows : List Row) (from to : ℕ) (point : IsInsertionPoint text rows from) (end : IsEndOf order rows to) where
  -- else the row at the end would be less than the text, and compare as greater
  end_follows : from ≤ to
  end_follows = ⊎_elim
      (λ before.
      let row : Row = get_or rows to ([], 0) in
      let less : IsLess row.0 text = point.before to ([], 0) (omega arith) before in
      let past = end.after to ([], 0) (omega arith) (omega (arith, point.within)) in
      absurd (false≢true (sym past ∙ ap is_le (tells.less row less))))
      (λ le. le) (cases_lt to from)

  pub run_between : IsRun rows from to Has
  run_between = record {
    ordered = end_follows;
    within = end.within;
    has = λ k d low high. tells.equal_back (get_or rows k d) (equal_is _
        (λ less. point.after k d low (omega (arith, end.within)) (tells.less_back (get_or rows k d) less))
        (end.before k d (omega arith) high));
    none_before = λ k d low high has.
        let row : Row = get_or rows k d in
        less_not_equal (sym (tells.less row (point.before k d low high)) ∙ tells.equal row has);
    none_after = λ k d low high has.
        false≢true (sym (end.after k d low high) ∙ ap is_le (tells.equal (get_or rows k d) has));
  }
