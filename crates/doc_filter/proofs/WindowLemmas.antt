-- The least end of a choice: by the first list and those behind it.
use Rattle.std.proofs.Common.{◌≡◌, ℕ, ◌+◌, ◌<◌, ◌≤◌, max, Bool, true, false, ltb, ltb-true, lt-ltb}
use Rattle.std.proofs.Common.{List, [], ◌∷◌, length, get_or, All, Contains, Some, None, slice_get}
use Rattle.std.proofs.Common.{refl, sym, ap, ◌∙◌, subst, arith}
use Rattle.std.proofs.Common.{inl, inr, ltb-false}
use Rattle.std.proofs.lemmas.Bool.{and_from, and_parts, cases_lt, false≢true}
use Rattle.std.proofs.lemmas.List.{get_or_default}
use Rattle.std.proofs.lemmas.Option.{slice_get-get_or, slice_get_past}
use Rattle.std.proofs.lemmas.List.Elements.{All-nil, All-cons, All-head, All-tail, All-weaker}
use Rattle.std.specs.List.Sorted.{IsNonDecreasing, IsPartitionPoint}
use Rattle.doc_meaning.specs.Near.{is_rising}
use Rattle.doc_filter.specs.Windows.{FindsEnd, FindsNext, IsChoice, IsLeastEnd, floor_behind}

-- behind the first of rising numbers all are greater
rises_above : (n : ℕ) (ns : List ℕ) → is_rising (n ∷ ns) ≡ true → All (λ m. n + 1 ≤ m) ns
rises_above n [] rises = All-nil (λ m. n + 1 ≤ m)
rises_above n (m ∷ ns) rises =
    let parts = and_parts (ltb n m) (is_rising (m ∷ ns)) rises in
    let lt : n < m = ltb-true n m parts.0 in
    All-cons (λ k. n + 1 ≤ k) m ns (omega arith)
    (All-weaker (λ k. m + 1 ≤ k) (λ k. n + 1 ≤ k) (λ k le. omega (arith, le, lt)) ns (rises_above m ns parts.1))

rises_behind : (n : ℕ) (ns : List ℕ) → is_rising (n ∷ ns) ≡ true → is_rising ns ≡ true
rises_behind n [] rises = refl
rises_behind n (m ∷ ns) rises = (and_parts (ltb n m) (is_rising (m ∷ ns)) rises).1

rises_from : (n : ℕ) (ns : List ℕ) → All (λ m. n + 1 ≤ m) ns → is_rising ns ≡ true → is_rising (n ∷ ns) ≡ true
rises_from n [] above rises = refl
rises_from n (m ∷ ns) above rises =
    let le : n + 1 ≤ m = All-head (λ k. n + 1 ≤ k) m ns above in
    and_from _ _ (lt-ltb n m (omega arith)) rises

-- a list of choices without lists
end_of_none : (ordered : Bool) (low : ℕ) → FindsEnd ordered low [] (Some 0)
end_of_none ordered low = record {
  chosen = [];
  choice = record { one_each = tt; from = All-nil (λ n. low ≤ n); rises = λ is. refl };
  within = All-nil (λ n. n ≤ 0);
  least = λ other bound choice within. omega arith;
}

-- what is chosen of the lists behind the first, where the first one's number is no less than the least
behind_first : (ordered : Bool) (low next n : ℕ) (ns : List ℕ) (children : List (List ℕ)) (chosen : List ℕ) →
    IsChoice ordered low (ns ∷ children) (n ∷ chosen) → next ≤ n →
    IsChoice ordered (floor_behind ordered low next) children chosen
behind_first true low next n ns children chosen choice le = record {
  one_each = choice.one_each.1;
  from = All-weaker (λ m. n + 1 ≤ m) (λ m. next + 1 ≤ m) (λ m h. omega (arith, h, le)) chosen
      (rises_above n chosen (choice.rises refl));
  rises = λ is. rises_behind n chosen (choice.rises is);
}
behind_first false low next n ns children chosen choice le = record {
  one_each = choice.one_each.1;
  from = All-tail (λ m. low ≤ m) n chosen choice.from;
  rises = λ is. rises_behind n chosen (choice.rises is);
}

-- a number of the first list before a choice of those behind it
with_first : (ordered : Bool) (low next : ℕ) (ns : List ℕ) (children : List (List ℕ)) (chosen : List ℕ) →
    Contains ns next → low ≤ next → IsChoice ordered (floor_behind ordered low next) children chosen →
    IsChoice ordered low (ns ∷ children) (next ∷ chosen)
with_first true low next ns children chosen in_first le choice = record {
  one_each = (in_first, choice.one_each);
  from = All-cons (λ m. low ≤ m) next chosen le
      (All-weaker (λ m. next + 1 ≤ m) (λ m. low ≤ m) (λ m h. omega (arith, h, le)) chosen choice.from);
  rises = λ is. rises_from next chosen choice.from (choice.rises is);
}
with_first false low next ns children chosen in_first le choice = record {
  one_each = (in_first, choice.one_each);
  from = All-cons (λ m. low ≤ m) next chosen le choice.from;
  rises = λ is. absurd (false≢true is);
}

-- no number of the first list
none_in_first : (ordered : Bool) (low : ℕ) (ns : List ℕ) (children : List (List ℕ)) →
    ((n : ℕ) → Contains ns n → low ≤ n → ⊥) → FindsEnd ordered low (ns ∷ children) None
none_in_first ordered low ns children none [] choice = choice.one_each
none_in_first ordered low ns children none (n ∷ chosen) choice =
    none n choice.one_each.0 (All-head (λ m. low ≤ m) n chosen choice.from)

-- no choice of the lists behind the least number of the first
none_behind : (ordered : Bool) (low next : ℕ) (ns : List ℕ) (children : List (List ℕ)) →
    FindsNext ns low (Some next) → FindsEnd ordered (floor_behind ordered low next) children None →
    FindsEnd ordered low (ns ∷ children) None
none_behind ordered low next ns children first none [] choice = choice.one_each
none_behind ordered low next ns children first none (n ∷ chosen) choice =
    let le = first.2 n choice.one_each.0 (All-head (λ m. low ≤ m) n chosen choice.from) in
    none chosen (behind_first ordered low next n ns children chosen choice le)

-- the least end behind the least number of the first list
end_behind : (ordered : Bool) (low next end : ℕ) (ns : List ℕ) (children : List (List ℕ)) →
    FindsNext ns low (Some next) → IsLeastEnd ordered (floor_behind ordered low next) children end →
    FindsEnd ordered low (ns ∷ children) (Some (max end next))
end_behind ordered low next end ns children first behind = record {
  chosen = next ∷ behind.chosen;
  choice = with_first ordered low next ns children behind.chosen first.0 first.1 behind.choice;
  within = All-cons (λ n. n ≤ max end next) next behind.chosen (omega arith)
      (All-weaker (λ n. n ≤ end) (λ n. n ≤ max end next) (λ n le. omega (arith, le)) behind.chosen behind.within);
  least = least;
}
  where
    least : (other : List ℕ) (bound : ℕ) → IsChoice ordered low (ns ∷ children) other → All (λ n. n ≤ bound) other →
        max end next ≤ bound
    least [] bound choice within = absurd choice.one_each
    least (n ∷ other) bound choice within =
        let le = first.2 n choice.one_each.0 (All-head (λ m. low ≤ m) n other choice.from) in
        let here : n ≤ bound = All-head (λ m. m ≤ bound) n other within in
        let there : end ≤ bound = behind.least other bound
        (behind_first ordered low next n ns children other choice le) (All-tail (λ m. m ≤ bound) n other within) in
        omega (arith, le, here, there)

-- what the rest of the lists gives from a floor on is, with the end so far, what all of them give
pub record Leads (ordered : Bool) (low : ℕ) (children : List (List ℕ)) (from end : ℕ) (rest : List (List ℕ)) : Type 0 where
  pub none : FindsEnd ordered from rest None → FindsEnd ordered low children None
  pub some : (e : ℕ) → IsLeastEnd ordered from rest e → IsLeastEnd ordered low children (max e end)

module _ (ordered : Bool) (low : ℕ) (children : List (List ℕ)) where
  pub leads_first : Leads ordered low children low 0 children
  leads_first = record {
    none = λ none. none;
    some = λ e is. let same : e ≡ max e 0 = omega arith in subst (IsLeastEnd ordered low children) same is;
  }

  pub leads_on : (from end next : ℕ) (ns : List ℕ) (rest : List (List ℕ)) → FindsNext ns from (Some next) →
      Leads ordered low children from end (ns ∷ rest) →
      Leads ordered low children (floor_behind ordered from next) (max end next) rest
  leads_on from end next ns rest first leads = record {
    none = λ none. leads.none (none_behind ordered from next ns rest first none);
    some = λ e is. let same : max (max e next) end ≡ max e (max end next) = omega arith in
        subst (IsLeastEnd ordered low children) same
        (leads.some (max e next) (end_behind ordered from next e ns rest first is));
  }

  pub leads_nowhere : (from end : ℕ) (ns : List ℕ) (rest : List (List ℕ)) → FindsNext ns from None →
      Leads ordered low children from end (ns ∷ rest) → FindsEnd ordered low children None
  leads_nowhere from end ns rest none leads = leads.none (none_in_first ordered from ns rest none)

  pub leads_to : (from end : ℕ) → Leads ordered low children from end [] →
      FindsEnd ordered low children (Some end)
  leads_to from end leads =
      let same : max 0 end ≡ end = omega arith in
      subst (IsLeastEnd ordered low children) same (leads.some 0 (end_of_none ordered from))

-- the place of the least number that isn't below the floor
module _ (numbers : List ℕ) (low at : ℕ) (order : IsNonDecreasing numbers)
    (point : IsPartitionPoint (λ n. ltb n low ≡ true) (λ n. ltb n low ≡ false) numbers at) where
  -- the numbers before it are below the floor
  allowed_behind : (n : ℕ) (has : Contains numbers n) → low ≤ n → at ≤ has.0
  allowed_behind n has allowed =
      elim (cases_lt has.0 at) [
        | inl lt ↦ let below : get_or numbers has.0 n < low = ltb-true _ low (point.0 has.0 n (omega arith) lt) in
            absurd (omega (arith, below, has.2, allowed))
        | inr le ↦ le
      ]

  next_there : (next : ℕ) → at < length numbers → get_or numbers at next ≡ next → FindsNext numbers low (Some next)
  next_there next lt is = ((at, lt, is), le, least)
    where
      le : low ≤ next
      le = ltb-false next low (ap (λ n. ltb n low) (sym is) ∙ point.1 at next (omega arith) lt)

      least : (n : ℕ) → Contains numbers n → low ≤ n → next ≤ n
      least n has allowed =
          let rises = order at has.0 next (allowed_behind n has allowed) has.1 in
          omega (arith, rises, is, has.2, get_or_default numbers has.0 next n has.1)

  next_nowhere : length numbers ≤ at → FindsNext numbers low None
  next_nowhere past n has allowed = let le = allowed_behind n has allowed in omega (arith, le, has.1, past)

  pub next_found : FindsNext numbers low (slice_get numbers at)
  next_found =
      elim (cases_lt at (length numbers)) [
        | inl lt ↦ subst (FindsNext numbers low) (sym (slice_get-get_or numbers at 0 lt))
            (next_there (get_or numbers at 0) lt (get_or_default numbers at (get_or numbers at 0) 0 lt))
        | inr le ↦ subst (FindsNext numbers low) (sym (slice_get_past numbers at le)) (next_nowhere le)
      ]
