-- Bytes that are read as postings, and places where they aren't.
use Rattle.std.proofs.Common.{◌≡◌, ℕ, suc, ◌+◌, ◌-◌, ◌^◌, ◌<◌, ◌≤◌, List, [], ◌∷◌, ◌++◌, length, take, drop, get_or}
use Rattle.std.proofs.Common.{Some, None, Result, Ok, Err, sym, ap, subst, ◌∙◌, append_assoc, inl, inr, arith}
use Rattle.std.proofs.lemmas.Bool.{cases_lt}
use Rattle.std.proofs.lemmas.List.{append-nil, append_cancel_left, drop_more, length-append, length-take-le}
use Rattle.std.proofs.lemmas.List.{take-append-drop, take_all, take_at}
use Rattle.std.proofs.lemmas.Option.{none-some, some_pair_parts}
use Rattle.post_lists.specs.Numbers.{digits_at, items_of, last_of}
use Rattle.post_lists.specs.Postings.{ArePostings, Spells, number, spelling, spelling_after}
use Rattle.post_lists.specs.Reading.{Follows, Gives, GoesOn, IsBadAt, OnePlace, Reads}
use Rattle.post_lists.specs.declared.refusal.ListRefusal.{ListRefusal}
use Rattle.post_lists.specs.declared.refusal.ListRefusal.TheVariants.{Bad, Memory}
use Rattle.post_lists.proofs.Lists.{items_again, number_again, spelling_push}
use Rattle.post_lists.proofs.Places.{one_further, spelling_split}
use Rattle.post_lists.proofs.Rising.{above, above_front, each_back, each_front, each_weaker, increasing, last_at_most}

-- ---- one posting

-- the number of an item that may follow is read
pub follows_read : (below : ℕ) (items bytes : List ℕ) (item : ℕ) (rest : List ℕ) → below ≤ 2 ^ 32
    → Follows below items bytes item rest → digits_at 5 bytes ≡ Some (item - last_of 0 items, rest)
follows_read below items bytes item rest le f =
    let last = each_back below items (item ∷ []) f.postings.each in
    ap (digits_at 5) f.begins ∙ number_again (item - last_of 0 items) rest (omega (arith, last.0, le))

pub none_follows : (below : ℕ) (items bytes : List ℕ) (item : ℕ) (rest : List ℕ) → below ≤ 2 ^ 32
    → digits_at 5 bytes ≡ None → Follows below items bytes item rest → ⊥
none_follows below items bytes item rest le e f =
    none-some (item - last_of 0 items, rest) (sym e ∙ follows_read below items bytes item rest le f)

pub last_each : (below : ℕ) (items : List ℕ) (item : ℕ) → ArePostings below (items ++ item ∷ []) → item < below
last_each below items item p = (each_back below items (item ∷ []) p.each).0

-- a posting more
pub one_posting : (below : ℕ) (bytes items rest : List ℕ) (item : ℕ) (behind : List ℕ) → bytes ≡ spelling items ++ rest
    → Follows below items rest item behind → bytes ≡ spelling (items ++ item ∷ []) ++ behind
one_posting below bytes items rest item behind e f =
    let n : List ℕ = number (item - last_of 0 items) in
    e ∙ ap (λ (r : List ℕ). spelling items ++ r) f.begins ∙ sym (append_assoc (spelling items) n behind)
    ∙ ap (λ (front : List ℕ). front ++ behind) (sym (spelling_push items item))

-- an item that may follow is the one whose number was read
pub follows_is : (below : ℕ) (items bytes : List ℕ) (item : ℕ) (rest : List ℕ) (more : ℕ) (behind : List ℕ) (last : ℕ)
    → below ≤ 2 ^ 32 → Follows below items bytes item rest → digits_at 5 bytes ≡ Some (more, behind)
    → last ≡ last_of 0 items → last + more ≡ item
follows_is below items bytes item rest more behind last le f read ends =
    let p = some_pair_parts more (item - last_of 0 items) behind rest
    (sym read ∙ follows_read below items bytes item rest le f) in
    let at_most : last_of 0 items ≤ item =
    last_at_most 0 0 items item (omega arith) (above (items ++ item ∷ []) f.postings.rising) in
    omega (arith, p.0, ends, at_most)

-- ---- the first that doesn't fit

module _ (count below : ℕ) (bytes items rest : List ℕ) (place : ℕ) (postings : ArePostings below items)
    (spelled : bytes ≡ spelling items ++ rest) (at : place ≡ length bytes - length rest) where
  lengths : length bytes ≡ length (spelling items) + length rest
  lengths = ap length spelled ∙ length-append (spelling items) rest

  before_place : take place bytes ≡ spelling items
  before_place =
      ap (take place) spelled ∙ take_at (spelling items) rest place (omega (arith, lengths, at))

  goes_follows : (g : GoesOn below bytes items) → Follows below items rest g.item g.rest
  goes_follows g = record {
    postings = g.postings;
    begins = append_cancel_left (spelling items) rest (number (g.item - last_of 0 items) ++ g.rest)
        (sym spelled ∙ g.begins ∙ ap (λ (front : List ℕ). front ++ g.rest) (spelling_push items g.item)
        ∙ append_assoc (spelling items) (number (g.item - last_of 0 items)) g.rest);
  }

  pub bad_posting : length items < count → ((x : ℕ) (r : List ℕ) → Follows below items rest x r → ⊥)
      → IsBadAt count below bytes place
  bad_posting few none = record {
    before = items;
    postings = postings;
    few = omega (arith, few);
    within = omega (arith, lengths, at);
    spelled = before_place;
    unfit = λ lt g. none g.item g.rest (goes_follows g);
    too_many = λ e. absurd (omega (arith, e, few));
  }

-- ---- bytes that are spelled aren't damaged

postings_front : (below : ℕ) (xs ys : List ℕ) → ArePostings below (xs ++ ys) → ArePostings below xs
postings_front below xs ys p = record {
  rising = increasing 0 xs (above_front 0 xs ys (above (xs ++ ys) p.rising));
  each = each_front below xs ys p.each;
}

-- the items of the front of some bytes
front_items : (below : ℕ) (bytes items rest : List ℕ) → below ≤ 2 ^ 32 → ArePostings below items
    → bytes ≡ spelling items ++ rest → items_of (length items) 0 bytes ≡ items
front_items below bytes items rest le p e =
    ap (items_of (length items) 0) e
    ∙ items_again items 0 0 rest (omega arith) (above items p.rising) (each_weaker below (2 ^ 32) items le p.each)

pub same_items : (count below : ℕ) (bytes xs ys : List ℕ) → below ≤ 2 ^ 32 → Spells count below bytes xs
    → Spells count below bytes ys → xs ≡ ys
same_items count below bytes xs ys le p q =
    sym (front_items below bytes xs [] le p.postings (p.spelled ∙ sym (append-nil (spelling xs))))
    ∙ ap (λ (n : ℕ). items_of n 0 bytes) (p.counted ∙ sym q.counted)
    ∙ front_items below bytes ys [] le q.postings (q.spelled ∙ sym (append-nil (spelling ys)))

-- the postings before a damaged place are the first of any postings that the bytes begin with
module _ (count below : ℕ) (bytes items rest : List ℕ) (place : ℕ) (le : below ≤ 2 ^ 32) (p : ArePostings below items)
    (spelled : bytes ≡ spelling items ++ rest) (b : IsBadAt count below bytes place)
    (within : length b.before ≤ length items) where
  abbrev n : ℕ
  n = length b.before

  -- the bytes in two parts, behind k postings
  split : (k : ℕ) → bytes ≡ spelling (take k items) ++
      (spelling_after (last_of 0 (take k items)) (drop k items) ++ rest)
  split k =
      spelled ∙ ap (λ (front : List ℕ). front ++ rest) (spelling_split items k)
      ∙ append_assoc (spelling (take k items)) (spelling_after (last_of 0 (take k items)) (drop k items)) rest

  front : (k : ℕ) → ArePostings below (take k items)
  front k =
      postings_front below (take k items) (drop k items)
      (subst (ArePostings below) (sym (take-append-drop k items)) p)

  first : b.before ≡ take n items
  first =
      sym (front_items below bytes b.before (drop place bytes) le b.postings
      (sym (take-append-drop place bytes) ∙ ap (λ (f : List ℕ). f ++ drop place bytes) b.spelled))
      ∙ ap (λ (k : ℕ). items_of k 0 bytes) (sym (length-take-le n items within))
      ∙ front_items below bytes (take n items) (spelling_after (last_of 0 (take n items)) (drop n items) ++ rest) le
      (front n) (split n)

  pub not_longer : n < count → n < length items → ⊥
  not_longer lt some =
      let x : ℕ = get_or items n 0 in
      let h = one_further n items x (drop (n + 1) items) (drop_more items n 0 some) in
      let next : take (suc n) items ≡ b.before ++ x ∷ [] = h.1 ∙ ap (λ (f : List ℕ). f ++ x ∷ []) (sym first) in
      let behind : List ℕ = spelling_after (last_of 0 (take (suc n) items)) (drop (suc n) items) ++ rest in
      b.unfit lt (record {
        item = x;
        rest = behind;
        postings = subst (ArePostings below) next (front (suc n));
        begins = split (suc n) ∙ ap (λ (f : List ℕ). spelling f ++ behind) next;
      })

  pub same_before : n ≡ length items → b.before ≡ items
  same_before all = first ∙ take_all n items (omega (arith, all))

not_bad : (count below : ℕ) (bytes items : List ℕ) (place : ℕ) → below ≤ 2 ^ 32 → Spells count below bytes items
    → IsBadAt count below bytes place → ⊥
not_bad count below bytes items place le s b =
    let whole : bytes ≡ spelling items ++ [] = s.spelled ∙ sym (append-nil (spelling items)) in
    let within : length b.before ≤ length items = omega (arith, b.few, s.counted) in
    elim (cases_lt (length b.before) count) [
      | inl lt ↦
          not_longer count below bytes items [] place le s.postings whole b within lt (omega (arith, lt, s.counted))
      | inr ge ↦
          let all : length b.before ≡ count = omega (arith, ge, b.few) in
          let same = same_before count below bytes items [] place le s.postings whole b within
          (omega (arith, all, s.counted)) in
          let lengths : length (take place bytes) ≡ length bytes =
          ap length (b.spelled ∙ ap spelling same ∙ sym s.spelled) in
          omega (arith, lengths, length-take-le place bytes b.within, b.too_many all)
    ]

-- ---- and only one place is

place_is : (count below : ℕ) (bytes : List ℕ) (place : ℕ) → (b : IsBadAt count below bytes place)
    → place ≡ length (spelling b.before)
place_is count below bytes place b = sym (length-take-le place bytes b.within) ∙ ap length b.spelled

begins : (count below : ℕ) (bytes : List ℕ) (place : ℕ) → (b : IsBadAt count below bytes place)
    → bytes ≡ spelling b.before ++ drop place bytes
begins count below bytes place b =
    sym (take-append-drop place bytes) ∙ ap (λ (f : List ℕ). f ++ drop place bytes) b.spelled

as_many : (count below : ℕ) (bytes : List ℕ) (p q : ℕ) → below ≤ 2 ^ 32 → (b : IsBadAt count below bytes p)
    → (c : IsBadAt count below bytes q) → length b.before ≤ length c.before → p ≡ q
as_many count below bytes p q le b c few =
    let rest : List ℕ = drop q bytes in
    let e = begins count below bytes q c in
    elim (cases_lt (length b.before) (length c.before)) [
      | inl lt ↦
          absurd (not_longer count below bytes c.before rest p le c.postings e b few (omega (arith, lt, c.few)) lt)
      | inr ge ↦
          let same = same_before count below bytes c.before rest p le c.postings e b few (omega (arith, ge, few)) in
          place_is count below bytes p b ∙ ap (λ (xs : List ℕ). length (spelling xs)) same
          ∙ sym (place_is count below bytes q c)
    ]

pub one_place : OnePlace
one_place count below bytes p q le b c =
    elim (cases_lt (length c.before) (length b.before)) [
      | inl lt ↦ sym (as_many count below bytes q p le c b (omega (arith, lt)))
      | inr ge ↦ as_many count below bytes p q le b c ge
    ]

-- what is read of bytes that spell a list
pub gives : (count below : ℕ) (bytes items : List ℕ) (result : Result (List ℕ) ListRefusal) → below ≤ 2 ^ 32
    → Reads count below bytes result → Spells count below bytes items → Gives items result
gives count below bytes items (Ok list) le read s = same_items count below bytes list items le read s
gives count below bytes items (Err Memory) le read s = tt
gives count below bytes items (Err (Bad place)) le read s = not_bad count below bytes items place le s read
