-- What is shown with one more entry, and of a history that begins with what is shown.
use Rattle.std.proofs.Common.{◌≡◌, ⊎_elim, ℕ, ◌+◌, ◌-◌, ◌<◌, ◌≤◌, cond, leb, List, [], ◌∷◌, ◌++◌, length, map, get_or, refl, sym, ap, ◌∙◌, subst₂, arith, take_all}
use Rattle.std.proofs.lemmas.Bool.{cases_lt, cond-false, cond-true, le-leb, lt-leb}
use Rattle.std.proofs.lemmas.List.{ext_get_or, take-append-le}
use Rattle.std.proofs.lemmas.List.FromFn.{get_or-map-range_with_len, length-map-range_with_len}
use Rattle.std.specs.FinMap.{empty}
use Rattle.std.specs.List.{range_with_len}
use Rattle.doc_model.specs.declared.entry.Entry.{Entry}
use Rattle.doc_meaning.proofs.EntryLemmas.{merge_after_push}
use Rattle.doc_meaning.specs.History.{AreEntries, Base, Database, History, IsBase, after_entries, after_entry, base_at, database_at, front, latest, merge, merge_after, shown}
use Rattle.directory_meaning.specs.Laws.{EntriesGoOnAlike, ShownBegins}
use Rattle.directory_meaning.specs.Shown.{shown_from, with_entry}
use Rattle.directory_meaning.proofs.EntryLemmas.{from_is_the_same, front_push, merge_rises}

-- where each of a range is the same, all are
ranges_same : {X : Type 0} (d : X) (f g : ℕ → X) (a n : ℕ) → ((at : ℕ) → a ≤ at → at < a + n → f at ≡ g at) →
    map f (range_with_len a n) ≡ map g (range_with_len a n)
ranges_same d f g a n same =
    let len = length-map-range_with_len f a n in
    ext_get_or d (map f (range_with_len a n)) (map g (range_with_len a n)) (len ∙ sym (length-map-range_with_len g a n))
    (λ i below.
    let within : i < n = omega (arith, below, len) in
    get_or-map-range_with_len f a n i (a + i) d within refl
    ∙ same (a + i) (omega arith) (omega (arith, within))
    ∙ sym (get_or-map-range_with_len g a n i (a + i) d within refl))

-- earlier databases stay with one more entry
database_before : (h : History) (entry : Entry) (at : ℕ) → at ≤ front h →
    database_at (with_entry h entry) at ≡ database_at h at
database_before h entry at le =
    ap (λ es. cond (leb at h.base.front) (base_at h.base at)
    (after_entries h.base.front es (base_at h.base h.base.front)))
    (take-append-le (at - h.base.front) h.entries (entry ∷ []) (omega (arith, le)))

after_push : (at : ℕ) (es : List Entry) (entry : Entry) (db : Database) →
    after_entries at (es ++ entry ∷ []) db ≡ after_entry (at + length es + 1) entry (after_entries at es db)
after_push at [] entry db = let here : at + 0 + 1 ≡ at + 1 = omega arith in rw here refl
after_push at (x ∷ es) entry db =
    let here : at + 1 + length es + 1 ≡ at + length (x ∷ es) + 1 = omega arith in
    after_push (at + 1) es entry (after_entry (at + 1) x db)
    ∙ ap (λ n. after_entry n entry (after_entries at (x ∷ es) db)) here

-- past the base's front a database is made by all entries
database_past : (base : Base) (entries : List Entry) → 1 ≤ length entries →
    latest (record { base = base; entries = entries }) ≡ after_entries base.front entries (base_at base base.front)
database_past base entries more =
    let end : ℕ = base.front + length entries in
    cond-false (leb end base.front) _ _ (lt-leb end base.front (omega (arith, more)))
    ∙ ap (λ es. after_entries base.front es (base_at base base.front))
    (take_all (end - base.front) entries (omega arith))

latest_over : (base : Base) (entries : List Entry) →
    latest (record { base = base; entries = entries }) ≡ after_entries base.front entries (base_at base base.front)
latest_over base [] =
    let none : base.front + 0 ≡ base.front = omega arith in
    ap (λ at. database_at (record { base = base; entries = [] }) at) none
    ∙ cond-true (leb base.front base.front) _ _ (le-leb base.front base.front (omega arith))
latest_over base (entry ∷ entries) = database_past base (entry ∷ entries) (omega arith)

latest_push : (h : History) (entry : Entry) →
    database_at (with_entry h entry) (front h + 1) ≡ after_entry (front h + 1) entry (latest h)
latest_push h entry =
    ap (database_at (with_entry h entry)) (sym (front_push h entry))
    ∙ latest_over h.base (h.entries ++ entry ∷ [])
    ∙ after_push h.base.front h.entries entry (base_at h.base h.base.front)
    ∙ ap (after_entry (front h + 1) entry) (sym (latest_over h.base h.entries))

-- the databases of a base, and behind them the one that an entry makes of the last
abbrev gone_on : Base → Entry → ℕ → Database
gone_on b entry at = cond (leb at b.front) (base_at b at) (after_entry (b.front + 1) entry (base_at b b.front))

-- a base with one more entry, from the merge timestamp behind it on
abbrev pushed : Base → Entry → Base
pushed b entry = record {
  front = b.front + 1;
  merge = merge_after b.merge (entry ∷ []);
  settings = b.settings;
  databases = map (gone_on b entry)
      (range_with_len (merge_after b.merge (entry ∷ [])) (b.front + 1 + 1 - merge_after b.merge (entry ∷ [])));
}

module _ (m : ℕ) (h : History) (entry : Entry) (ordered : m ≤ front h)
    (are : AreEntries (front h) m (entry ∷ [])) where
  database_push : (at : ℕ) → m ≤ at → at ≤ front h + 1 →
      database_at (with_entry h entry) at ≡ gone_on (shown_from m h) entry at
  database_push at low high = ⊎_elim
      (λ past.
      let last : at ≡ front h + 1 = omega (arith, past, high) in
      ap (database_at (with_entry h entry)) last
      ∙ latest_push h entry
      ∙ ap (after_entry (front h + 1) entry) (sym (from_is_the_same m h (front h) ordered (omega arith)))
      ∙ sym (cond-false (leb at (front h)) _ _ (lt-leb at (front h) past)))
      (λ before.
      database_before h entry at before
      ∙ sym (from_is_the_same m h at low before)
      ∙ sym (cond-true (leb at (front h)) _ _ (le-leb at (front h) before)))
      (cases_lt (front h) at)

  -- what is shown with one more entry comes from what was shown before
  shown_push : shown_from (merge_after m (entry ∷ [])) (with_entry h entry) ≡ pushed (shown_from m h) entry
  shown_push =
      let to : ℕ = merge_after m (entry ∷ []) in
      let fronts : front (with_entry h entry) ≡ front h + 1 = front_push h entry in
      let rises : m ≤ to = merge_rises (front h) m entry are in
      let databases : (shown_from to (with_entry h entry)).databases ≡ (pushed (shown_from m h) entry).databases =
      ap (λ high. map (database_at (with_entry h entry)) (range_with_len to (high + 1 - to))) fronts
      ∙ ranges_same empty (database_at (with_entry h entry)) (gone_on (shown_from m h) entry) to (front h + 1 + 1 - to)
      (λ at low high. database_push at (omega (arith, low, rises)) (omega (arith, high, low))) in
      λ i. record { front = fronts i; merge = to; settings = h.base.settings; databases = databases i }

pub entries_go_on_alike : EntriesGoOnAlike
entries_go_on_alike h g m entry ordered same are =
    let fronts : front g ≡ front h = ap (λ (b : Base). b.front) same in
    let merges : m ≡ merge h = ap (λ (b : Base). b.merge) same in
    shown_push m g entry (omega (arith, ordered, fronts, merges))
    (subst₂ (λ at low. AreEntries at low (entry ∷ [])) (sym fronts) (sym merges) are)
    ∙ ap (λ b. pushed b entry) same
    ∙ sym (shown_push (merge h) h entry ordered are)
    ∙ ap (λ low. shown_from low (with_entry h entry)) (sym (merge_after_push h.base.merge h.entries entry))

begins : (b : Base) → IsBase b → shown (record { base = b; entries = [] }) ≡ b
begins b is =
    let fronts : b.front + 0 ≡ b.front = omega arith in
    let h : History = record { base = b; entries = [] } in
    let len : length (shown h).databases ≡ b.front + 0 + 1 - b.merge =
    length-map-range_with_len (database_at h) b.merge (b.front + 0 + 1 - b.merge) in
    let databases : (shown h).databases ≡ b.databases =
    ext_get_or empty (shown h).databases b.databases (omega (arith, len, is.each))
    (λ i below.
    let within : i < b.front + 0 + 1 - b.merge = omega (arith, below, len) in
    let place : b.merge + i - b.merge ≡ i = omega arith in
    get_or-map-range_with_len (database_at h) b.merge (b.front + 0 + 1 - b.merge) i (b.merge + i) empty within refl
    ∙ cond-true (leb (b.merge + i) b.front) _ _ (le-leb (b.merge + i) b.front (omega (arith, within)))
    ∙ ap (λ k. get_or b.databases k empty) place) in
    λ i. record { front = fronts i; merge = b.merge; settings = b.settings; databases = databases i }

pub shown_begins : ShownBegins
shown_begins base is = begins base is
