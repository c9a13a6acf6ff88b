-- The meaning of each query that keeps its rules is between its two tests.
use Rattle.std.proofs.Common.{◌≡◌, ℕ, ◌+◌, ◌≤◌, not, cond, ltb, Bool, true, false, List, [], ◌∷◌, map, All, Contains, Option, None, Some, refl, sym, subst, ap, ◌∙◌, arith, ⊎_elim}
use Rattle.std.proofs.lemmas.Bool.{and_from, and_parts, or_cases, or_left, or_right}
use Rattle.std.proofs.lemmas.List.Elements.{All-cons, All-nil}
use Rattle.std.specs.List.{list_all, list_any}
use Rattle.doc_model.specs.Documents.{PlainDocument}
use Rattle.doc_model.specs.Queries.{Index, broken_query_rule, directories_end, missing_index, fits, fits_step, near_children_fit, no_range, query_count, query_depth}
use Rattle.doc_model.specs.declared.query.Query.{Query, map-Query}
use Rattle.doc_model.specs.declared.query.Query.TheFolds.{fold-roll-Query, ind-Query}
use Rattle.doc_model.specs.declared.query.Query.TheOpen.{Query-F}
use Rattle.doc_model.specs.declared.query.Query.TheViews.{roll-Query}
use Rattle.doc_model.specs.declared.refusal.QueryBad.{QueryBad}
use Rattle.doc_model.specs.declared.refusal.QueryBad.TheVariants as rule
use Rattle.doc_meaning.specs.declared.bounds.Bounds.{Bounds}
use Rattle.doc_meaning.specs.declared.meaning.Meaning.{Meaning}
use Rattle.doc_meaning.specs.Estimates.{bounds, bounds_step, exactly, near_bounds}
use Rattle.doc_meaning.specs.Laws.{SatisfiesMaybe, SureSatisfies}
use Rattle.doc_meaning.specs.Meaning.{is_nonempty, meaning, meaning_step, plainly}
use Rattle.doc_meaning.specs.Near.{ChoosesOne, is_near}
use Rattle.doc_meaning.specs.Strings.{strings}
use Rattle.doc_meaning.proofs.NearLemmas.{near_from, near_of}
use Rattle.doc_meaning.proofs.PhraseStartLemmas.{nonempty-flat_map}
use Rattle.doc_meaning.proofs.WordBoundsLemmas.{prop_maybe, prop_sure, word_maybe, word_sure}

-- a query that keeps the rule of near means what is between its bounds; it holds where it starts, and a near child starts
-- where it holds
record Agrees (fit : Bool → Bool) (m : Meaning) (b : Bounds) : Type 0 where
  starts : is_nonempty m.starts ≡ true → m.holds ≡ true
  inner : fit true ≡ true → fit false ≡ true
  near : fit true ≡ true → m.holds ≡ true → is_nonempty m.starts ≡ true
  sure : fit false ≡ true → b.sure ≡ true → m.holds ≡ true
  maybe : fit false ≡ true → m.holds ≡ true → b.maybe ≡ true

leaf : (b : Bool) (fit : Bool → Bool) → fit true ≡ false → Agrees fit (plainly b) (exactly b)
leaf b fit far = record { starts = λ is. cc; inner = λ is. cc; near = λ is holds. cc; sure = λ f is. is; maybe = λ f is. is }

contrary : (a b : Bool) → (a ≡ true → b ≡ true) → not b ≡ true → not a ≡ true
contrary true b h is = sym (ap not (h refl)) ∙ is
contrary false b h is = refl

-- near of one child that starts somewhere
alone : (distance : ℕ) (ordered : Bool) (ns : List ℕ) → is_nonempty ns ≡ true → is_near distance ordered (ns ∷ []) ≡ true
alone distance ordered [] is = cc
alone distance ordered (n ∷ ns) is =
    near_from distance ordered ((n ∷ ns) ∷ []) (record {
      chosen = n ∷ [];
      one_each = ((0, omega arith, refl), tt);
      close = All-cons (λ k. All (λ m. k ≤ m + distance) (n ∷ [])) n []
          (All-cons (λ m. n ≤ m + distance) n [] (omega arith) (All-nil (λ m. n ≤ m + distance)))
          (All-nil (λ k. All (λ m. k ≤ m + distance) (n ∷ [])));
      rises = λ e. refl;
    })

nothing_near : (distance : ℕ) (ordered : Bool) → is_near distance ordered [] ≡ true
nothing_near distance ordered =
    near_from distance ordered [] (record { chosen = []; one_each = tt; close = All-nil (λ k. All (λ m. k ≤ m + distance) []); rises = λ e. refl })

contains_nonempty : (ns : List ℕ) (n : ℕ) → Contains ns n → is_nonempty ns ≡ true
contains_nonempty [] n c = let lt = c.1 in absurd (omega arith)
contains_nonempty (m ∷ ns) n c = refl

module _ (d : PlainDocument) where
  abbrev Sound : Query → Type 0
  Sound q = Agrees (fits q) (meaning d q) (bounds d q)

  abbrev Agreed : Type 0
  Agreed = (q : Query) × Sound q

  abbrev fits_of : List Agreed → List (Bool → Bool)
  fits_of ys = map fits (map (λ e. e.0) ys)

  abbrev meanings_of : List Agreed → List Meaning
  meanings_of ys = map (meaning d) (map (λ e. e.0) ys)

  abbrev bounds_of : List Agreed → List Bounds
  bounds_of ys = map (bounds d) (map (λ e. e.0) ys)

  abbrev all_fit : List Agreed → Bool
  all_fit ys = list_all (λ c. c false) (fits_of ys)

  abbrev all_near : List Agreed → Bool
  all_near ys = list_all (λ c. c true) (fits_of ys)

  -- the children of near keep the rule of near themselves
  all_inner : (ys : List Agreed) → all_near ys ≡ true → all_fit ys ≡ true
  all_inner [] near = refl
  all_inner (e ∷ ys) near =
      let nears = and_parts (fits e.0 true) (all_near ys) near in
      and_from _ _ (e.1.inner nears.0) (all_inner ys nears.1)

  all_sure : (ys : List Agreed) → all_fit ys ≡ true → list_all (λ b. b.sure) (bounds_of ys) ≡ true →
      list_all (λ m. m.holds) (meanings_of ys) ≡ true
  all_sure [] fit is = refl
  all_sure (e ∷ ys) fit is =
      let fit_parts = and_parts (fits e.0 false) (all_fit ys) fit in
      let parts = and_parts (bounds d e.0).sure (list_all (λ b. b.sure) (bounds_of ys)) is in
      and_from _ _ (e.1.sure fit_parts.0 parts.0) (all_sure ys fit_parts.1 parts.1)

  all_maybe : (ys : List Agreed) → all_fit ys ≡ true → list_all (λ m. m.holds) (meanings_of ys) ≡ true →
      list_all (λ b. b.maybe) (bounds_of ys) ≡ true
  all_maybe [] fit is = refl
  all_maybe (e ∷ ys) fit is =
      let fit_parts = and_parts (fits e.0 false) (all_fit ys) fit in
      let parts = and_parts (meaning d e.0).holds (list_all (λ m. m.holds) (meanings_of ys)) is in
      and_from _ _ (e.1.maybe fit_parts.0 parts.0) (all_maybe ys fit_parts.1 parts.1)

  any_sure : (ys : List Agreed) → all_fit ys ≡ true → list_any (λ b. b.sure) (bounds_of ys) ≡ true →
      list_any (λ m. m.holds) (meanings_of ys) ≡ true
  any_sure [] fit is = is
  any_sure (e ∷ ys) fit is =
      let fit_parts = and_parts (fits e.0 false) (all_fit ys) fit in
      ⊎_elim (λ here. or_left _ _ (e.1.sure fit_parts.0 here)) (λ later. or_right _ _ (any_sure ys fit_parts.1 later))
      (or_cases (bounds d e.0).sure (list_any (λ b. b.sure) (bounds_of ys)) is)

  any_maybe : (ys : List Agreed) → all_fit ys ≡ true → list_any (λ m. m.holds) (meanings_of ys) ≡ true →
      list_any (λ b. b.maybe) (bounds_of ys) ≡ true
  any_maybe [] fit is = is
  any_maybe (e ∷ ys) fit is =
      let fit_parts = and_parts (fits e.0 false) (all_fit ys) fit in
      ⊎_elim (λ here. or_left _ _ (e.1.maybe fit_parts.0 here)) (λ later. or_right _ _ (any_maybe ys fit_parts.1 later))
      (or_cases (meaning d e.0).holds (list_any (λ m. m.holds) (meanings_of ys)) is)

  any_starts : (ys : List Agreed) → list_any (λ m. is_nonempty m.starts) (meanings_of ys) ≡ true → list_any (λ m. m.holds) (meanings_of ys) ≡ true
  any_starts [] is = is
  any_starts (e ∷ ys) is =
      ⊎_elim (λ here. or_left _ _ (e.1.starts here)) (λ later. or_right _ _ (any_starts ys later))
      (or_cases (is_nonempty (meaning d e.0).starts) (list_any (λ m. is_nonempty m.starts) (meanings_of ys)) is)

  any_near : (ys : List Agreed) → all_near ys ≡ true → list_any (λ m. m.holds) (meanings_of ys) ≡ true →
      list_any (λ m. is_nonempty m.starts) (meanings_of ys) ≡ true
  any_near [] near is = is
  any_near (e ∷ ys) near is =
      let nears = and_parts (fits e.0 true) (all_near ys) near in
      ⊎_elim (λ here. or_left _ _ (e.1.near nears.0 here)) (λ later. or_right _ _ (any_near ys nears.1 later))
      (or_cases (meaning d e.0).holds (list_any (λ m. m.holds) (meanings_of ys)) is)

  near_sure : (ys : List Agreed) (distance : ℕ) (ordered : Bool) → all_near ys ≡ true → all_fit ys ≡ true →
      (near_bounds (bounds_of ys)).sure ≡ true → is_near distance ordered (map (λ m. m.starts) (meanings_of ys)) ≡ true
  near_sure [] distance ordered near fit is = nothing_near distance ordered
  near_sure (e ∷ []) distance ordered near fit is =
      alone distance ordered (meaning d e.0).starts (e.1.near (and_parts (fits e.0 true) true near).0
      (e.1.sure (and_parts (fits e.0 false) true fit).0 is))
  near_sure (e ∷ f ∷ ys) distance ordered near fit is = cc

  each_maybe : (ys : List Agreed) (chosen : List ℕ) → ChoosesOne chosen (map (λ m. m.starts) (meanings_of ys)) →
      all_fit ys ≡ true → list_all (λ b. b.maybe) (bounds_of ys) ≡ true
  each_maybe [] chosen one fit = refl
  each_maybe (e ∷ ys) [] one fit = absurd one
  each_maybe (e ∷ ys) (n ∷ chosen) one fit =
      let fit_parts = and_parts (fits e.0 false) (all_fit ys) fit in
      and_from _ _ (e.1.maybe fit_parts.0 (e.1.starts (contains_nonempty (meaning d e.0).starts n one.0))) (each_maybe ys chosen one.1 fit_parts.1)

  near_all : (ys : List Agreed) → list_all (λ b. b.maybe) (bounds_of ys) ≡ true → (near_bounds (bounds_of ys)).maybe ≡ true
  near_all [] is = refl
  near_all (e ∷ []) is = (and_parts (bounds d e.0).maybe true is).0
  near_all (e ∷ f ∷ ys) is = is

  near_maybe : (ys : List Agreed) (distance : ℕ) (ordered : Bool) → all_fit ys ≡ true →
      is_near distance ordered (map (λ m. m.starts) (meanings_of ys)) ≡ true → (near_bounds (bounds_of ys)).maybe ≡ true
  near_maybe ys distance ordered fit is =
      let near = near_of distance ordered (map (λ m. m.starts) (meanings_of ys)) is in
      near_all ys (each_maybe ys near.chosen near.one_each fit)

  layer : (y : Query-F Agreed) → Agrees (fits_step (map-Query Query (Bool → Bool) fits (map-Query Agreed Query (λ e. e.0) y)))
      (meaning_step d (map-Query Query Meaning (meaning d) (map-Query Agreed Query (λ e. e.0) y)))
      (bounds_step d (map-Query Query Bounds (bounds d) (map-Query Agreed Query (λ e. e.0) y)))
  layer Query-F.True = leaf _ _ refl
  layer Query-F.False = leaf _ _ refl
  layer (Query-F.And ys) = record { starts = λ is. cc; inner = λ is. cc; near = λ is holds. is; sure = all_sure ys; maybe = all_maybe ys }
  layer (Query-F.Or ys) = record {
    starts = λ is. any_starts ys (sym (nonempty-flat_map (λ m. m.starts) (meanings_of ys)) ∙ is);
    inner = all_inner ys;
    near = λ near holds. nonempty-flat_map (λ m. m.starts) (meanings_of ys) ∙ any_near ys near holds;
    sure = any_sure ys;
    maybe = any_maybe ys;
  }
  layer (Query-F.Not e) = record {
    starts = λ is. cc;
    inner = λ is. cc;
    near = λ is holds. is;
    sure = λ fit. contrary _ _ (e.1.maybe fit);
    maybe = λ fit. contrary _ _ (e.1.sure fit);
  }
  layer (Query-F.AndNot p n) = record {
    starts = λ is. cc;
    inner = λ is. cc;
    near = λ is holds. is;
    sure = λ fit is.
        let fit_parts = and_parts (fits p.0 false) (fits n.0 false) fit in
        let parts = and_parts (bounds d p.0).sure (not (bounds d n.0).maybe) is in
        and_from _ _ (p.1.sure fit_parts.0 parts.0) (contrary _ _ (n.1.maybe fit_parts.1) parts.1);
    maybe = λ fit is.
        let fit_parts = and_parts (fits p.0 false) (fits n.0 false) fit in
        let parts = and_parts (meaning d p.0).holds (not (meaning d n.0).holds) is in
        and_from _ _ (p.1.maybe fit_parts.0 parts.0) (contrary _ _ (n.1.sure fit_parts.1) parts.1);
  }
  layer (Query-F.Word texts case) = record {
    starts = λ is. is;
    inner = λ fit. refl;
    near = λ near is. is;
    sure = λ fit. word_sure (strings d.root) case texts;
    maybe = λ fit. word_maybe (strings d.root) case texts;
  }
  layer (Query-F.PropWord names texts case) = record {
    starts = λ is. is;
    inner = λ fit. refl;
    near = λ near is. is;
    sure = λ fit. prop_sure (strings d.root) case names texts;
    maybe = λ fit. prop_maybe (strings d.root) case names texts;
  }
  layer (Query-F.PropValue names values case exact) = leaf _ _ refl
  layer (Query-F.Range names op values) = leaf _ _ refl
  layer (Query-F.Near ys distance ordered) = record {
    starts = λ is. cc;
    inner = λ is. cc;
    near = λ is holds. is;
    sure = λ near. near_sure ys distance ordered near (all_inner ys near);
    maybe = λ near. near_maybe ys distance ordered (all_inner ys near);
  }
  layer (Query-F.Collection names) = leaf _ _ refl
  layer (Query-F.Directory uris infinite) = leaf _ _ refl
  layer (Query-F.DocUri uris) = leaf _ _ refl

  fits_roll : (z : Query-F Query) → fits (roll-Query z) ≡ fits_step (map-Query Query (Bool → Bool) fits z)
  fits_roll = fold-roll-Query (Bool → Bool) fits_step

  meaning_roll : (z : Query-F Query) → meaning d (roll-Query z) ≡ meaning_step d (map-Query Query Meaning (meaning d) z)
  meaning_roll = fold-roll-Query Meaning (meaning_step d)

  bounds_roll : (z : Query-F Query) → bounds d (roll-Query z) ≡ bounds_step d (map-Query Query Bounds (bounds d) z)
  bounds_roll = fold-roll-Query Bounds (bounds_step d)

  rolled : (fit fit' : Bool → Bool) (m m' : Meaning) (b b' : Bounds) → fit ≡ fit' → m ≡ m' → b ≡ b' → Agrees fit' m' b' → Agrees fit m b
  rolled fit fit' m m' b b' e f g h =
      subst (λ x. Agrees x m b) (sym e) (subst (λ x. Agrees fit' x b) (sym f) (subst (λ x. Agrees fit' m' x) (sym g) h))

  step : (y : Query-F Agreed) → Sound (roll-Query (map-Query Agreed Query (λ e. e.0) y))
  step y =
      let z : Query-F Query = map-Query Agreed Query (λ e. e.0) y in
      rolled _ _ _ _ _ _ (fits_roll z) (meaning_roll z) (bounds_roll z) (layer y)

  sound : (q : Query) → Sound q
  sound = ind-Query Sound (λ x y is. subst (λ z. Sound (roll-Query z)) is (step y))

not_broken : (a b c fit : Bool) (w x y z : QueryBad) (r : Option QueryBad) →
    cond a (Some w) (cond b (Some x) (cond c (Some y) (cond (not fit) (Some z) r))) ≡ None → fit ≡ true
not_broken true b c fit w x y z r is = cc
not_broken false true c fit w x y z r is = cc
not_broken false false true fit w x y z r is = cc
not_broken false false false true w x y z r is = refl
not_broken false false false false w x y z r is = cc

keeps_near : (q : Query) (indexes : List Index) → broken_query_rule q indexes ≡ None → near_children_fit q ≡ true
keeps_near q indexes is =
    not_broken (ltb 32 (query_depth q)) (ltb 10_000 (query_count q)) (not (directories_end q)) (near_children_fit q)
    (rule.TooDeep 32) (rule.TooMany 10_000) rule.BadDirectory rule.NearChild (no_range (missing_index q indexes)) is

pub sure_satisfies : SureSatisfies
sure_satisfies q indexes d keeps is = (sound d q).sure (keeps_near q indexes keeps) is

pub satisfies_maybe : SatisfiesMaybe
satisfies_maybe q indexes d keeps is = (sound d q).maybe (keeps_near q indexes keeps) is
