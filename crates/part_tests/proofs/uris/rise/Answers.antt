use Rattle.std.proofs.Common.{◌≡◌, Bool, true, ◌⊎◌, inl, inr, ⊎_elim, refl, sym, rules}
use Rattle.std.specs.Cmp.Lexicographic.{slice_cmp}
use Rattle.std.specs.Ordering.{is_lt, nat_cmp, ordering_then}
use Rattle.std.specs.declared.cmp.Ordering.{Ordering}
use Rattle.std.specs.declared.cmp.Ordering.TheVariants.{Equal, Greater, Less}
use Rattle.std.proofs.lemmas.Bool.{MatchBool-at_true}
use Rattle.std.proofs.lemmas.Cmp.{ranked}
use Rattle.std.proofs.lemmas.List.Sorted.{answers_always}
use Rattle.uri_table.specs.Rows.{Row, ComesBefore, IsLess}
use Rattle.uri_table.proofs.Orders.{less_is, same_text}
use Rattle.part_tests.proofs.uris.rise.Goals as goal

abbrev rises : Row → Row → Ordering
rises a b = ordering_then (slice_cmp nat_cmp a.0 b.0) (nat_cmp a.1 b.1)

less_by : (o p : Ordering) → true ≡ is_lt (ordering_then o p) → (o ≡ Less) ⊎ ((o ≡ Equal) × (p ≡ Less))
less_by Less p e = inl refl
less_by Equal p e = inr (refl, less_is p (sym e))
less_by Greater p e = cc

before : (a b : Row) → true ≡ is_lt (rises a b) → ComesBefore a b
before a b e = ⊎_elim
    (λ (less : IsLess a.0 b.0). inl less)
    (λ (same : (slice_cmp nat_cmp a.0 b.0 ≡ Equal) × (nat_cmp a.1 b.1 ≡ Less)).
    inr (same_text a.0 b.0 same.0, ranked a.1 b.1 Less (sym same.1)))
    (less_by (slice_cmp nat_cmp a.0 b.0) (nat_cmp a.1 b.1) e)

pub returns : goal.returns
returns c = λ rise.
    let test : Row → Row → Bool = λ a b. is_lt (rises a b) in
    let cases = c.is_sorted_by.ensures.cases test
    (answers_always _ (λ a r. r ≡ test a.0.now a.1.0.now) _ (λ f a r f' k. search rules)) in
    λ k d next. before _ _ (MatchBool-at_true _ _ rise cases k d next)
