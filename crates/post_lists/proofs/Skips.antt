-- A list with an item more keeps its table of skips.
use Rattle.std.proofs.Common.{◌≡◌, ℕ, ◌+◌, ◌-◌, ◌*◌, ◌%◌, ◌^◌, ◌<◌, Bool, true, false, cond, ◌==◌}
use Rattle.std.proofs.Common.{List, [], ◌∷◌, ◌++◌, length, take, get_or, refl, sym, ap, subst, ◌∙◌, inl, inr, arith}
use Rattle.std.specs.List.Sorted.{IsStrictlyIncreasing}
use Rattle.std.proofs.lemmas.Bool.{cases_lt, eqb-false, eqb-true}
use Rattle.std.proofs.lemmas.List.{get_or_append_left, get_or_push, length-append, length_push, take-append-le}
use Rattle.std.proofs.lemmas.List.{take_all}
use Rattle.post_lists.specs.Keeping.{HasSkips, IsAt, Keeps, with_skip}
use Rattle.post_lists.specs.Numbers.{items_of, last_of}
use Rattle.post_lists.specs.Postings.{number, spelling}
use Rattle.post_lists.specs.declared.skip.Skip.{Skip}
use Rattle.post_lists.specs.declared.term_list.TermList.TheInside.{Inside}
use Rattle.post_lists.proofs.Lists.{items_of_spelling, spelling_push}
use Rattle.post_lists.proofs.Rising.{each_push, last_more}

at_longer : (items ys : List ℕ) (n place last : ℕ) → IsAt items n place last → IsAt (items ++ ys) n place last
at_longer items ys n place last at =
    let same : take n (items ++ ys) ≡ take n items = take-append-le n items ys at.there in
    record {
      there = omega (arith, at.there, length-append items ys);
      begins = at.begins ∙ ap (λ (xs : List ℕ). length (spelling xs)) (sym same);
      ends = at.ends ∙ ap (last_of 0) (sym same);
    }

-- behind the last item
pub at_end : (items : List ℕ) (n : ℕ) → n ≡ length items → IsAt items n (length (spelling items)) (last_of 0 items)
at_end items n e =
    let all : take n items ≡ items = take_all n items (omega (arith, e)) in
    record {
      there = omega (arith, e);
      begins = ap (λ (xs : List ℕ). length (spelling xs)) (sym all);
      ends = ap (last_of 0) (sym all);
    }

skip_at : (items : List ℕ) (n place last : ℕ) (s t : Skip) → s ≡ t
    → IsAt items n t.place t.item → IsAt items n s.place s.item
skip_at items n place last s t e at = subst (λ (u : Skip). IsAt items n u.place u.item) (sym e) at

module _ (items : List ℕ) (x : ℕ) (skips : List Skip) (skip : Skip) (kept : HasSkips items skips)
    (item : skip.item ≡ x) (place : skip.place ≡ length (spelling (items ++ x ∷ []))) where
  one_more : (length items + 1) % 128 ≡ 0 → HasSkips (items ++ x ∷ []) (skips ++ skip ∷ [])
  one_more due = record {
    complete = omega (arith, kept.complete, length_push items x, length_push skips skip);
    each = λ k d lt. elim (cases_lt k (length skips)) [
      | inl old ↦
          skip_at (items ++ x ∷ []) (128 * (k + 1)) 0 0 (get_or (skips ++ skip ∷ []) k d) (get_or skips k d)
          (get_or_append_left skips (skip ∷ []) d k old)
          (at_longer items (x ∷ []) (128 * (k + 1)) (get_or skips k d).place (get_or skips k d).item
          (kept.each k d old))
      | inr le ↦
          let last : k ≡ length skips = omega (arith, le, lt, length_push skips skip) in
          let all : 128 * (k + 1) ≡ length (items ++ x ∷ []) =
          omega (arith, last, kept.complete, length_push items x) in
          let at = at_end (items ++ x ∷ []) (128 * (k + 1)) all in
          skip_at (items ++ x ∷ []) (128 * (k + 1)) 0 0 (get_or (skips ++ skip ∷ []) k d) skip
          (get_or_push skips skip d k (sym last))
          (record {
            there = at.there;
            begins = place ∙ at.begins;
            ends = item ∙ sym (last_more 0 items x) ∙ at.ends;
          })
    ];
  }

  no_more : ((length items + 1) % 128 ≡ 0 → ⊥) → HasSkips (items ++ x ∷ []) skips
  no_more none = record {
    complete = omega (arith, none, kept.complete, length_push items x);
    each = λ k d lt. at_longer items (x ∷ []) (128 * (k + 1)) (get_or skips k d).place (get_or skips k d).item
        (kept.each k d lt);
  }

  pub skips_more : HasSkips (items ++ x ∷ []) (with_skip skips (length items + 1) skip)
  skips_more = go ((length items + 1) % 128 == 0) refl
    where
      go : (b : Bool) → ((length items + 1) % 128 == 0) ≡ b
          → HasSkips (items ++ x ∷ []) (cond b (skips ++ skip ∷ []) skips)
      go true t = one_more (eqb-true ((length items + 1) % 128) 0 t)
      go false t = no_more (eqb-false ((length items + 1) % 128) 0 t)

-- the fields with an item more
pub keeps_more : (items : List ℕ) (x : ℕ) (bytes : List ℕ) (skips : List Skip) (count last : ℕ)
    → Keeps items bytes skips count last → IsStrictlyIncreasing (items ++ x ∷ []) → x < 2 ^ 32
    → (new : List ℕ) (table : List Skip) (n place : ℕ) → new ≡ bytes ++ number (x - last) → n ≡ count + 1
    → n < 2 ^ 32 → place ≡ length new → table ≡ with_skip skips n (record { item = x; place = place })
    → Keeps (items ++ x ∷ []) new table n x
keeps_more items x bytes skips count last kept rising below new table n place e_new e_n few e_place e_table =
    let spelled : new ≡ spelling (items ++ x ∷ []) =
    e_new ∙ ap (λ (front : List ℕ). front ++ number (x - last)) kept.spelled
    ∙ ap (λ (l : ℕ). spelling items ++ number (x - l)) kept.ended ∙ sym (spelling_push items x) in
    let counted : n ≡ length items + 1 = e_n ∙ ap (λ (n : ℕ). n + 1) kept.counted in
    let skip : Skip = record { item = x; place = place } in
    let same : with_skip skips (length items + 1) skip ≡ table =
    ap (λ (n : ℕ). with_skip skips n skip) (sym counted) ∙ sym e_table in
    record {
      postings = record { rising = rising; each = each_push (2 ^ 32) items x kept.postings.each below };
      spelled = spelled;
      counted = counted ∙ sym (length_push items x);
      few = few;
      ended = sym (last_more 0 items x);
      skipped = subst (HasSkips (items ++ x ∷ [])) same
          (skips_more items x skips skip kept.skipped refl (e_place ∙ ap length spelled));
    }

-- no items
pub keeps_none : (bytes : List ℕ) (skips : List Skip) → bytes ≡ [] → skips ≡ [] → Keeps [] bytes skips 0 0
keeps_none bytes skips none no_skips = record {
  postings = record { rising = λ k lt. absurd (omega arith); each = tt };
  spelled = none;
  counted = refl;
  few = omega arith;
  ended = refl;
  skipped = record {
    complete = ap length no_skips;
    each = λ k d lt. absurd (omega (arith, ap length no_skips));
  };
}

-- what a list is seen as
pub seen : (items bytes : List ℕ) (skips : List Skip) (count last : ℕ) → Keeps items bytes skips count last
    → items_of count 0 bytes ≡ items
seen items bytes skips count last kept =
    ap (λ (n : ℕ). items_of n 0 bytes) kept.counted
    ∙ ap (items_of (length items) 0) kept.spelled
    ∙ items_of_spelling items kept.postings

-- the fields keep what they are seen as
pub keeps_seen : (items bytes : List ℕ) (skips : List Skip) (count last : ℕ) → Keeps items bytes skips count last
    → Keeps (items_of count 0 bytes) bytes skips count last
keeps_seen items bytes skips count last kept =
    subst (λ (xs : List ℕ). Keeps xs bytes skips count last) (sym (seen items bytes skips count last kept)) kept

-- the fields of a list that is seen as these items
pub kept_in : (i : Inside) (items : List ℕ) → items_of i.count 0 i.bytes.items ≡ items
    → Keeps (items_of i.count 0 i.bytes.items) i.bytes.items i.skips.items i.count i.last
    → Keeps items i.bytes.items i.skips.items i.count i.last
kept_in i items is kept =
    subst (λ (xs : List ℕ). Keeps xs i.bytes.items i.skips.items i.count i.last) is kept
