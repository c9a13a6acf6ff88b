-- What an image shows is a base.
use Rattle.std.proofs.Common.{◌≡◌, ⊎_elim, ℕ, zero, suc, ◌+◌, ◌-◌, ◌<◌, ◌≤◌, cond, leb, List, [], ◌∷◌, ◌++◌, map, length, take, get_or, Some, None, All, refl, sym, ap, ◌∙◌, subst, arith}
use Rattle.std.proofs.lemmas.Bool.{cases_lt}
use Rattle.std.proofs.lemmas.List.{get_or_past, length-map}
use Rattle.std.proofs.lemmas.List.Elements.{All-append, All-cons, All-nil}
use Rattle.std.proofs.lemmas.List.FromFn.{length-map-range_with_len}
use Rattle.std.specs.Cmp.Lexicographic.{slice_cmp}
use Rattle.std.specs.FinMap.{empty, get, get-empty}
use Rattle.std.specs.List.{AllZip}
use Rattle.std.specs.Ordering.{nat_cmp}
use Rattle.disk_model.specs.Files.{Files}
use Rattle.doc_model.specs.declared.entry.Entry.{Entry}
use Rattle.doc_model.specs.declared.entry.Entry.TheVariants.{Commit, Forget}
use Rattle.doc_meaning.proofs.HistoryLemmas.{shown_is_the_same}
use Rattle.doc_meaning.proofs.ShownLemmas.{shown_is_a_base}
use Rattle.doc_meaning.specs.History.{AreEntries, Base, Database, History, IsBase, after_entries, after_entry, base_at, database_at, front, merge, merge_after, shown}
use Rattle.doc_meaning.specs.declared.version.Version.{Version}
use Rattle.journal_bodies.specs.Roots.{PlainRoot, SpellsRoot}
use Rattle.directory_meaning.specs.Bodies.{Bodies, TellsRoot}
use Rattle.directory_meaning.specs.Laws.{WhatIsShownIsABase}
use Rattle.directory_meaning.specs.Shown.{IsBaseOf, shown_from}
use Rattle.directory_meaning.proofs.EntryLemmas.{from_is_the_same}
use Rattle.directory_meaning.proofs.OneLemmas.{all_at}

-- ---- the base that a root tells

abbrev no_documents : Database
no_documents = empty

-- each of its databases is empty
pub always_empty : (files : Files) (root : PlainRoot) (base : Base) → IsBaseOf files root base → (i : ℕ) →
    get_or base.databases i no_documents ≡ no_documents
always_empty files root base is i = ⊎_elim
    (λ (below : i < length base.databases).
    let place : root.horizon + i - base.merge ≡ i = omega (arith, is.horizon) in
    ap (λ k. get_or base.databases k no_documents) (sym place)
    ∙ (is.databases (root.horizon + i) (omega arith) (omega (arith, below, is.each))).1)
    (λ past. get_or_past base.databases i no_documents past)
    (cases_lt i (length base.databases))

no_version : (files : Files) (root : PlainRoot) (base : Base) → IsBaseOf files root base →
    (at : ℕ) (uri : List ℕ) (v : Version) → get (base_at base at) uri ≡ Some v → ⊥
no_version files root base is at uri v got =
    let nothing : get (base_at base at) uri ≡ None =
    ap (λ db. get db uri) (always_empty files root base is (at - base.merge)) ∙ get-empty (slice_cmp nat_cmp) uri in
    cc

root_base : (files : Files) (root : PlainRoot) (base : Base) → root.horizon ≤ root.checkpoint →
    IsBaseOf files root base → IsBase base
root_base files root base within is = record {
  ordered = omega (arith, within, is.front, is.horizon);
  each = omega (arith, is.each, is.front, is.horizon);
  uris = λ at uri v got. absurd (no_version files root base is at uri v got);
  stamps = λ at uri v low high got. absurd (no_version files root base is at uri v got);
  same = λ at to uri v w got other created. absurd (no_version files root base is at uri v got);
}

abbrev IsWithin : PlainRoot → Type 0
IsWithin root = root.horizon ≤ root.checkpoint

roots_within : (bodies : List (List ℕ)) (roots : List PlainRoot) → AllZip SpellsRoot bodies roots → All IsWithin roots
roots_within [] [] spelled = All-nil IsWithin
roots_within [] (r ∷ roots) spelled = absurd spelled
roots_within (b ∷ bodies) [] spelled = absurd spelled
roots_within (b ∷ bodies) (r ∷ roots) spelled =
    All-cons IsWithin r roots spelled.0.rules.horizon (roots_within bodies roots spelled.1)

root_within : (bodies : Bodies) (root : PlainRoot) → TellsRoot bodies root → IsWithin root
root_within bodies root t =
    all_at IsWithin (t.roots_0 ++ t.roots_1) t.newest.before t.newest.behind root t.newest.whole
    (All-append IsWithin t.roots_0 t.roots_1 (roots_within (bodies 2) t.roots_0 t.first_log)
    (roots_within (bodies 3) t.roots_1 t.second_log))

-- ---- a history without its forgets

-- the entry, or a forget to this timestamp in place of any other one
abbrev held : ℕ → Entry → Entry
held low (Commit ops) = Commit ops
held low (Forget to) = Forget low

held_rules : (at low m : ℕ) (es : List Entry) → low ≤ at → AreEntries at m es → AreEntries at low (map (held low) es)
held_rules at low m [] le are = tt
held_rules at low m (Commit ops ∷ es) le are =
    (are.0, are.1, held_rules (at + 1) low m es (omega (arith, le)) are.2)
held_rules at low m (Forget to ∷ es) le are =
    (omega arith, le, held_rules (at + 1) low to es (omega (arith, le)) are.2)

held_merge : (low : ℕ) (es : List Entry) → merge_after low (map (held low) es) ≡ low
held_merge low [] = refl
held_merge low (Commit ops ∷ es) = held_merge low es
held_merge low (Forget to ∷ es) = held_merge low es

held_same : (low at n : ℕ) (es : List Entry) (db : Database) →
    after_entries at (take n (map (held low) es)) db ≡ after_entries at (take n es) db
held_same low at zero es db = refl
held_same low at (suc n) [] db = refl
held_same low at (suc n) (Commit ops ∷ es) db = held_same low (at + 1) n es (after_entry (at + 1) (Commit ops) db)
held_same low at (suc n) (Forget to ∷ es) db = held_same low (at + 1) n es db

-- the same databases, with the merge timestamp of the base
abbrev all_held : History → History
all_held h = record { base = h.base; entries = map (held h.base.merge) h.entries }

held_database : (h : History) (at : ℕ) → database_at h at ≡ database_at (all_held h) at
held_database h at = ap (cond (leb at h.base.front) (base_at h.base at))
    (sym (held_same h.base.merge h.base.front (at - h.base.front) h.entries (base_at h.base h.base.front)))

-- ---- a base from a later merge timestamp on

-- a base has the databases of another one from its merge timestamp on, under their own timestamps
abbrev LiesIn : Base → Base → ℕ → Type 0
LiesIn b c at = (to : ℕ) × (c.merge ≤ at → to ≡ at) × (base_at c at ≡ base_at b to)

-- a base from a later merge timestamp on is a base
part_is_base : (b c : Base) → IsBase b → b.merge ≤ c.merge → c.merge ≤ c.front → c.front ≡ b.front →
    length c.databases ≡ c.front + 1 - c.merge → ((at : ℕ) → LiesIn b c at) → IsBase c
part_is_base b c is lower ordered fronts each lies = record {
  ordered = ordered;
  each = each;
  uris = λ at uri v got. is.uris (lies at).0 uri v (found at uri v got);
  stamps = λ at uri v low high got.
      let there : (lies at).0 ≡ at = (lies at).1 low in
      let created = is.stamps (lies at).0 uri v (omega (arith, there, low, lower))
      (omega (arith, there, high, fronts)) (found at uri v got) in (created.0, omega (arith, created.1, there));
  same = λ at to uri v w got other created.
      is.same (lies at).0 (lies to).0 uri v w (found at uri v got) (found to uri w other) created;
}
  where
    found : (at : ℕ) (uri : List ℕ) (v : Version) → get (base_at c at) uri ≡ Some v →
        get (base_at b (lies at).0) uri ≡ Some v
    found at uri v got = ap (λ db. get db uri) (sym (lies at).2) ∙ got

module _ (m : ℕ) (h : History) (low : h.base.merge ≤ m) (ordered : m ≤ front h) where
  held_front : front (all_held h) ≡ front h
  held_front = omega (arith, length-map h.entries (held h.base.merge))

  shown_within : (at : ℕ) → m ≤ at → at ≤ front h → base_at (shown_from m h) at ≡ base_at (shown (all_held h)) at
  shown_within at from to =
      from_is_the_same m h at from to
      ∙ held_database h at
      ∙ sym (shown_is_the_same (all_held h) at (omega (arith, from, low, held_merge h.base.merge h.entries))
      (omega (arith, to, held_front)))

  shown_before : (at : ℕ) → at ≤ m → base_at (shown_from m h) at ≡ base_at (shown_from m h) m
  shown_before at to =
      let same : at - m ≡ m - m = omega (arith, to) in
      ap (λ i. get_or (shown_from m h).databases i no_documents) same

  shown_past : (k : History) (n at : ℕ) → front k < at → n ≤ front k → base_at (shown_from n k) at ≡ no_documents
  shown_past k n at past within = get_or_past (shown_from n k).databases (at - n) no_documents (omega (
    arith,
    past,
    within,
    length-map-range_with_len (database_at k) n (front k + 1 - n),
  ))

  shown_lies : (at : ℕ) → LiesIn (shown (all_held h)) (shown_from m h) at
  shown_lies at = ⊎_elim
      (λ before. (
        m,
        λ le. absurd (omega (arith, before, le)),
        shown_before at (omega (arith, before)) ∙ shown_within m (omega arith) ordered,
      ))
      (λ from. ⊎_elim
      (λ past. (
        at,
        λ le. refl,
        shown_past h m at past ordered
            ∙ sym (shown_past (all_held h) (merge (all_held h)) at (omega (arith, past, held_front))
            (omega (arith, low, ordered, held_front, held_merge h.base.merge h.entries))),
      ))
      (λ to. (at, λ le. refl, shown_within at from to))
      (cases_lt (front h) at))
      (cases_lt at m)

  -- what is shown of a history over a base is a base
  shown_is_base : (from : ℕ) → IsBase h.base → AreEntries h.base.front from h.entries → IsBase (shown_from m h)
  shown_is_base from is are = part_is_base (shown (all_held h)) (shown_from m h)
      (shown_is_a_base (all_held h) (record {
        base = is;
        entries = held_rules h.base.front h.base.merge from h.entries is.ordered are;
      }))
      (omega (arith, low, held_merge h.base.merge h.entries)) ordered (sym held_front)
      (length-map-range_with_len (database_at h) m (front h + 1 - m)) shown_lies

pub what_is_shown_is_a_base : WhatIsShownIsABase
what_is_shown_is_a_base files image base shows =
    let t = shows.tells in
    let low : shows.history.base.merge ≤ shows.merge = omega (arith, t.base.horizon, t.horizon) in
    subst IsBase (sym shows.shown) (shown_is_base shows.merge shows.history low shows.ordered t.root.merge
    (root_base files t.root shows.history.base (root_within shows.bodies t.root t.newest) t.base)
    (subst (λ at. AreEntries at t.root.merge shows.history.entries) (sym t.base.front) t.rules))
