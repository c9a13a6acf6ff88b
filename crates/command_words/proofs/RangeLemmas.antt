-- Range indexes in words.
use Rattle.std.proofs.Common.{◌≡◌, ◌≢◌, ◌≤◌, ◌<◌, ℕ, Bool, true, false, ◌&&◌, ◌||◌, not, List, [], ◌∷◌, ◌++◌, length, get_or, drop, map, reverse, refl, sym, ◌∙◌, ap, subst, inl, inr, arith, codes, IsTrue, length-append}
use Rattle.std.specs.Prelude.{All, nat_le, ◌⊎◌}
use Rattle.std.specs.Str.{bytes_eq}
use Rattle.std.specs.List.{list_any}
use Rattle.std.proofs.lemmas.Bool.{false≢true, le-leb, leb-true, not-true}
use Rattle.std.proofs.lemmas.Bool.Decides.{same_from_decides}
use Rattle.std.proofs.lemmas.Slice.Eq.{bytes_eq-Decides}
use Rattle.std.proofs.lemmas.List.{append_cancel_right, length-map, map-append, reverse-append}
use Rattle.std.proofs.lemmas.List.Folds.{list_any-append}
use Rattle.std.proofs.lemmas.List.Elements.{All-head, All-tail}
use Rattle.doc_model.specs.Queries.{Index, index_eq, is_index_list, is_indexed, kind_eq, no_index_twice}
use Rattle.doc_model.specs.declared.indexes.Kind.{Kind}
use Rattle.doc_model.specs.declared.indexes.Kind.TheVariants as kind
use Rattle.command_words.specs.Asked.{IsName, index_of, kind_text, range_text}
use Rattle.command_words.specs.declared.ranges.Range.{Range}
use Rattle.command_words.specs.Reading.{AddsRange, FindsRange, RefusesRange, has_range, indexes_in}
use Rattle.command_words.proofs.UseLemmas.{heads, nothing, tails}
use denote.Ref.{Bor}

ends_apart : (a b : List ℕ) → a ++ codes ":decimal" ≡ b ++ codes ":string" → ⊥
ends_apart a b is =
    let ends : reverse (codes ":decimal") ++ reverse a ≡ reverse (codes ":string") ++ reverse b =
    sym (reverse-append a (codes ":decimal"))
    ∙ (ap (λ (l : List ℕ). reverse l) is ∙ reverse-append b (codes ":string")) in
    let bad : ◌≡◌ {A = ℕ} 0x6C 0x67 = ap (λ (l : List ℕ). get_or l 0 0) ends in absurd (omega arith)

-- two indexes aren't written alike
pub range_once : (i j : Index) → range_text i ≡ range_text j → i ≡ j
range_once (a, kind.Decimal) (b, kind.Decimal) is =
    ap (λ (n : List ℕ). (n, kind.Decimal)) (append_cancel_right a b (codes ":decimal") is)
range_once (a, kind.Text) (b, kind.Text) is =
    ap (λ (n : List ℕ). (n, kind.Text)) (append_cancel_right a b (codes ":string") is)
range_once (a, kind.Decimal) (b, kind.Text) is = absurd (ends_apart a b is)
range_once (a, kind.Text) (b, kind.Decimal) is = absurd (ends_apart b a (sym is))

-- a word whose name is no name is no index
pub no_name : (text name : List ℕ) (k : Kind) → text ≡ range_text (name, k) → (IsName name → ⊥) → (index : Index)
    → IsName index.0 → text ≢ range_text index
no_name text name k is bad index good also =
    let same = range_once (name, k) index (sym is ∙ also) in
    bad (subst (λ (i : Index). IsName i.0) (sym same) good)

-- neither end is there
pub no_end : (text : List ℕ) → ((front : List ℕ) → text ≢ front ++ codes ":decimal")
    → ((front : List ℕ) → text ≢ front ++ codes ":string") → (index : Index) → IsName index.0
    → text ≢ range_text index
no_end text no_decimal no_string (name, kind.Decimal) good is = no_decimal name is
no_end text no_decimal no_string (name, kind.Text) good is = no_string name is

either : (b : Bool) → (b ≡ true) ⊎ (b ≡ false)
either true = inl refl
either false = inr refl

or_true : (a b : Bool) → b ≡ true → (a || b) ≡ true
or_true true b is = refl
or_true false b is = is

and_false : (a b : Bool) → b ≡ false → (a && b) ≡ false
and_false true b is = is
and_false false b is = refl

both : (a b : Bool) → (a && b) ≡ true → (a ≡ true) × (b ≡ true)
both true b is = (refl, is)
both false b is = absurd (false≢true is)

neither : (a b : Bool) → (a || b) ≡ false → (a ≡ false) × (b ≡ false)
neither true b is = absurd (false≢true (sym is))
neither false b is = (refl, is)

kind_turned : (a b : Kind) → kind_eq a b ≡ kind_eq b a
kind_turned kind.Decimal kind.Decimal = refl
kind_turned kind.Decimal kind.Text = refl
kind_turned kind.Text kind.Decimal = refl
kind_turned kind.Text kind.Text = refl

bytes_turned : (a b : List ℕ) → bytes_eq a b ≡ bytes_eq b a
bytes_turned a b =
    let there = bytes_eq-Decides a b in
    let back = bytes_eq-Decides b a in
    same_from_decides (bytes_eq a b) (bytes_eq b a) there ((λ is. sym (back.0 is)), (λ is. back.1 (sym is)))

turned : (i j : Index) → index_eq i j ≡ index_eq j i
turned i j = ap (λ (b : Bool). b && kind_eq i.1 j.1) (bytes_turned i.0 j.0)
    ∙ ap (λ (b : Bool). bytes_eq j.0 i.0 && b) (kind_turned i.1 j.1)

-- an index occurs twice
pub twice : (olds : List Index) (i : Index) (others : List Index) → is_indexed olds i ≡ true
    → no_index_twice (olds ++ i ∷ others) ≡ false
twice [] i others is = absurd (false≢true is)
twice (x ∷ xs) i others is = elim (either (index_eq i x)) [
  | inl same ↦
      let first : is_indexed (xs ++ i ∷ others) x ≡ true =
      list_any-append (index_eq x) xs (i ∷ others)
      ∙ or_true (list_any (index_eq x) xs) (index_eq x i || list_any (index_eq x) others)
      (ap (λ (b : Bool). b || list_any (index_eq x) others) (turned x i ∙ same)) in
      ap (λ (b : Bool). not b && no_index_twice (xs ++ i ∷ others)) first
  | inr apart ↦
      and_false (not (is_indexed (xs ++ i ∷ others) x)) (no_index_twice (xs ++ i ∷ others))
      (twice xs i others (ap (λ (b : Bool). b || is_indexed xs i) (sym apart) ∙ is))
]

-- an index that occurs nowhere is added
pub once_more : (olds : List Index) (i : Index) → no_index_twice olds ≡ true → is_indexed olds i ≡ false
    → no_index_twice (olds ++ i ∷ []) ≡ true
once_more [] i distinct is = refl
once_more (x ∷ xs) i distinct is =
    let here = both (not (is_indexed xs x)) (no_index_twice xs) distinct in
    let apart = neither (index_eq i x) (is_indexed xs i) is in
    let none : is_indexed (xs ++ i ∷ []) x ≡ false =
    list_any-append (index_eq x) xs (i ∷ [])
    ∙ (ap (λ (b : Bool). b || (index_eq x i || false)) (not-true (is_indexed xs x) here.0)
    ∙ ap (λ (b : Bool). b || false) (turned x i ∙ apart.0)) in
    ap (λ (b : Bool). not b && no_index_twice (xs ++ i ∷ [])) none ∙ once_more xs i here.1 apart.1

pub added : (olds : List Index) (i : Index) → length olds < 64 → is_indexed olds i ≡ false
    → IsTrue (is_index_list olds) → IsTrue (is_index_list (olds ++ i ∷ []))
added olds i room apart good =
    let here = both (nat_le (length olds) 64) (no_index_twice olds) good in
    let few : nat_le (length (olds ++ i ∷ [])) 64 ≡ true =
    le-leb (length (olds ++ i ∷ [])) 64 (omega (arith, length-append olds (i ∷ []))) in
    ap (λ (b : Bool). b && no_index_twice (olds ++ i ∷ [])) few ∙ once_more olds i here.1 apart

-- what is written begins with what was read
pub record GoesOn (olds indexes : List Index) (text : List ℕ) : Type 0 where
  pub next : Index
  pub others : List Index
  pub split : indexes ≡ olds ++ next ∷ others
  pub written : text ≡ range_text next

pub goes_on : (olds indexes : List Index) (text : List ℕ) (more : List (List ℕ))
    → map range_text olds ++ text ∷ more ≡ map range_text indexes → GoesOn olds indexes text
goes_on [] [] text more is = absurd (nothing text more (sym is))
goes_on [] (i ∷ is') text more is =
    record { next = i; others = is'; split = refl; written = heads text (range_text i) more (map range_text is') is }
goes_on (o ∷ olds) [] text more is =
    absurd (nothing (range_text o) (map range_text olds ++ text ∷ more) (sym is))
goes_on (o ∷ olds) (i ∷ is') text more is =
    let same = range_once o i
    (heads (range_text o) (range_text i) (map range_text olds ++ text ∷ more) (map range_text is') is) in
    let rest = goes_on olds is' text more
    (tails (range_text o) (range_text i) (map range_text olds ++ text ∷ more) (map range_text is') is) in
    record {
      next = rest.next;
      others = rest.others;
      split = ap (λ x. x ∷ is') (sym same) ∙ ap (λ (l : List Index). o ∷ l) rest.split;
      written = rest.written;
    }

name_in : (olds : List Index) (i : Index) (others : List Index)
    → All (λ (index : Index). IsName index.0) (olds ++ i ∷ others) → IsName i.0
name_in [] i others good = All-head (λ (index : Index). IsName index.0) i others good
name_in (o ∷ olds) i others good =
    name_in olds i others (All-tail (λ (index : Index). IsName index.0) o (olds ++ i ∷ others) good)

-- what a word is refused for refuses all indexes that go on with it
pub refuses : (olds indexes : List Index) (text : List ℕ) (more : List (List ℕ)) → RefusesRange olds text
    → map range_text olds ++ text ∷ more ≡ map range_text indexes
    → All (λ (index : Index). IsName index.0) indexes → IsTrue (is_index_list indexes) → ⊥
refuses olds indexes text more why is names distinct =
    let g = goes_on olds indexes text more is in
    let all = subst (λ (l : List Index). All (λ (index : Index). IsName index.0) l) g.split names in
    let parts = both (nat_le (length indexes) 64) (no_index_twice indexes) distinct in
    elim why [
      | inl out_of_form ↦ out_of_form g.next (name_in olds g.next g.others all) g.written
      | inr also ↦ elim also [
        | inl x ↦
            let same = range_once x.0 g.next (sym x.1 ∙ g.written) in
            let again : is_indexed olds g.next ≡ true = subst (λ (i : Index). is_indexed olds i ≡ true) same x.2 in
            false≢true (sym (twice olds g.next g.others again)
            ∙ (ap (λ (l : List Index). no_index_twice l) (sym g.split) ∙ parts.1))
        | inr full ↦
            let few = leb-true (length indexes) 64 parts.0 in
            let long : length indexes ≡ length (olds ++ g.next ∷ g.others) =
            ap (λ (l : List Index). length l) g.split in
            absurd (omega (arith, length-append olds (g.next ∷ g.others)))
      ]
    ]

-- the same test of the indexes that ranges are
pub has_indexed : (ranges : List Range) (wanted : Range)
    → has_range ranges wanted ≡ is_indexed (indexes_in ranges) (index_of wanted)
has_indexed [] wanted = refl
has_indexed (r ∷ ranges) wanted =
    ap (λ (b : Bool). index_eq (index_of wanted) (index_of r) || b) (has_indexed ranges wanted)

pub taken : (old new : List Range) (range : Range) (text : List ℕ) → new ≡ old ++ range ∷ [] → length old < 64
    → has_range old range ≡ false → IsName range.name.now × (text ≡ range_text (index_of range))
    → AddsRange (indexes_in old) (indexes_in new) text
taken old new range text is room apart good =
    let split : indexes_in new ≡ indexes_in old ++ index_of range ∷ [] =
    ap (λ (l : List Range). indexes_in l) is ∙ map-append index_of old (range ∷ []) in
    record {
      index = index_of range;
      name = good.0;
      written = good.1;
      added = split;
      distinct = λ before. subst (λ (l : List Index). IsTrue (is_index_list l)) (sym split)
          (added (indexes_in old) (index_of range) (omega (arith, length-map old index_of))
          (sym (has_indexed old range) ∙ apart) before);
    }

pub refused_full : (old : List Range) (text : List ℕ) → 64 ≤ length old → RefusesRange (indexes_in old) text
refused_full old text full = inr (inr (omega (arith, length-map old index_of)))

pub refused_again : (old : List Range) (range : Range) (text : List ℕ) → has_range old range ≡ true
    → text ≡ range_text (index_of range) → RefusesRange (indexes_in old) text
refused_again old range text again is = inr (inl (index_of range, is, sym (has_indexed old range) ∙ again))

pub named_by : (text : List ℕ) (pair found : Bor (List ℕ) × Kind) → pair ≡ found
    → text ≡ range_text (found.0.now, found.1) → text ≡ range_text (pair.0.now, pair.1)
named_by text pair found is written =
    subst (λ (p : Bor (List ℕ) × Kind). text ≡ range_text (p.0.now, p.1)) (sym is) written
