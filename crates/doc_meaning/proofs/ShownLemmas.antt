-- What a history shows is a base again.
use Rattle.std.proofs.Common.{◌≡◌, ◌⊎◌, inl, inr, ⊎_elim, ℕ, suc, ◌+◌, ◌-◌, ◌<◌, ◌≤◌, Bool, true, false, cond, leb, List, [], ◌∷◌, length, take, Some, None, bytes_eq, refl, sym, ap, ◌∙◌, arith}
use Rattle.std.proofs.lemmas.Bool.{cond-false, cond-true}
use Rattle.std.proofs.lemmas.Cmp.{nat_list_cmp_total}
use Rattle.std.proofs.lemmas.Bool.Decides.{leb_tells}
use Rattle.std.proofs.lemmas.List.{get_or_past, length-take, take-take}
use Rattle.std.proofs.lemmas.List.FromFn.{get_or-map-range_with_len, length-map-range_with_len}
use Rattle.std.proofs.lemmas.Map.Text.{is_eq-slice_cmp}
use Rattle.std.proofs.lemmas.Slice.Eq.{bytes_eq-Decides}
use Rattle.std.specs.Cmp.Lexicographic.{slice_cmp}
use Rattle.std.specs.FinMap.{empty, get, get-empty, get-insert, get-remove}
use Rattle.std.specs.Ordering.{nat_cmp}
use Rattle.doc_model.specs.declared.entry.Entry.{Entry}
use Rattle.doc_model.specs.declared.entry.Entry.TheVariants.{Commit, Forget}
use Rattle.doc_model.specs.declared.op.Op.{Op}
use Rattle.doc_model.specs.declared.op.Op.TheVariants.{Put, Remove}
use Rattle.doc_meaning.specs.declared.version.Version.{Version}
use Rattle.doc_meaning.specs.History.{AreEntries, Database, History, after_entries, after_entry, after_op, after_ops, base_at, database_at, front, merge, merge_after, shown}
use Rattle.doc_meaning.specs.Laws.{ShownIsABase}

-- each version is under its own URI
abbrev AreKeyed : Database → Type 0
AreKeyed db = (uri : List ℕ) (v : Version) → get db uri ≡ Some v → v.document.uri ≡ uri

pub same_some : {A : Type 0} (a b : A) → Some a ≡ Some b → a ≡ b
same_some a b e = cc

pub none_some : {A : Type 0} (a : A) → None ≡ Some a → ⊥
none_some a e = cc

-- a version that is found after an operation is the one that it puts, or was there
found_after : (at : ℕ) (op : Op) (db : Database) (uri : List ℕ) (v : Version) → get (after_op at op db) uri ≡ Some v →
    ((v.created ≡ at) × (v.document.uri ≡ uri)) ⊎ (get db uri ≡ Some v)
found_after at (Put document expect) db uri v is = go (bytes_eq uri document.uri) refl
  where
    told : get (after_op at (Put document expect) db) uri ≡ cond (bytes_eq uri document.uri)
        (Some (record { document = document; created = at })) (get db uri)
    told = get-insert nat_list_cmp_total db document.uri _ uri ∙
        ap (λ b. cond b (Some (record { document = document; created = at })) (get db uri))
        (is_eq-slice_cmp uri document.uri)

    go : (b : Bool) → bytes_eq uri document.uri ≡ b → ((v.created ≡ at) × (v.document.uri ≡ uri)) ⊎ (get db uri ≡ Some v)
    go true e =
        let put : record { document = document; created = at } ≡ v = same_some _ v (sym (told ∙ cond-true _ _ _ e) ∙ is) in
        inl (
          sym (ap (λ (w : Version). w.created) put),
          sym (ap (λ (w : Version). w.document.uri) put) ∙
              sym ((bytes_eq-Decides uri document.uri).0 e),
        )
    go false e = inr (sym (told ∙ cond-false _ _ _ e) ∙ is)
found_after at (Remove removed expect) db uri v is = go (bytes_eq uri removed) refl
  where
    told : get (after_op at (Remove removed expect) db) uri ≡ cond (bytes_eq uri removed) None (get db uri)
    told = get-remove nat_list_cmp_total db removed uri ∙ ap (λ b. cond b None (get db uri)) (is_eq-slice_cmp uri removed)

    go : (b : Bool) → bytes_eq uri removed ≡ b → ((v.created ≡ at) × (v.document.uri ≡ uri)) ⊎ (get db uri ≡ Some v)
    go true e = absurd (none_some v (sym (told ∙ cond-true _ _ _ e) ∙ is))
    go false e = inr (sym (told ∙ cond-false _ _ _ e) ∙ is)

found_after_ops : (at : ℕ) (ops : List Op) (db : Database) (uri : List ℕ) (v : Version) → get (after_ops at ops db) uri ≡ Some v →
    ((v.created ≡ at) × (v.document.uri ≡ uri)) ⊎ (get db uri ≡ Some v)
found_after_ops at [] db uri v is = inr is
found_after_ops at (op ∷ ops) db uri v is = ⊎_elim (λ put. inl put) (λ was. found_after at op db uri v was)
    (found_after_ops at ops (after_op at op db) uri v is)

found_after_entry : (at : ℕ) (entry : Entry) (db : Database) (uri : List ℕ) (v : Version) →
    get (after_entry at entry db) uri ≡ Some v →
    ((v.created ≡ at) × (v.document.uri ≡ uri)) ⊎ (get db uri ≡ Some v)
found_after_entry at (Commit ops) db uri v is = found_after_ops at ops db uri v is
found_after_entry at (Forget to) db uri v is = inr is

-- some entry created a version, and it is found right after that entry
record IsPut (begin : ℕ) (entries : List Entry) (db : Database) (uri : List ℕ) (v : Version) : Type 0 where
  pub nth : ℕ
  pub first : 1 ≤ nth
  pub last : nth ≤ length entries
  pub stamp : v.created ≡ begin + nth
  pub key : v.document.uri ≡ uri
  pub there : get (after_entries begin (take nth entries) db) uri ≡ Some v

-- a version that is found after some entries was there, or one of them created it
found_after_entries : (begin : ℕ) (entries : List Entry) (db : Database) (uri : List ℕ) (v : Version) →
    get (after_entries begin entries db) uri ≡ Some v →
    (get db uri ≡ Some v) ⊎ IsPut begin entries db uri v
found_after_entries begin [] db uri v is = inl is
found_after_entries begin (entry ∷ entries) db uri v is =
    ⊎_elim
    (λ was. ⊎_elim
    (λ put. inr (record { nth = 1; first = omega arith; last = omega arith; stamp = put.0; key = put.1; there = was }))
    (λ old. inl old)
    (found_after_entry (begin + 1) entry db uri v was))
    (λ later. inr (record {
      nth = later.nth + 1;
      first = omega arith;
      last = omega (arith, later.last);
      stamp = omega (arith, later.stamp);
      key = later.key;
      there = ap (λ es. get (after_entries begin es db) uri) (next later.nth) ∙ later.there;
    }))
    (found_after_entries (begin + 1) entries (after_entry (begin + 1) entry db) uri v is)
  where
    next : (n : ℕ) → take (n + 1) (entry ∷ entries) ≡ entry ∷ take n entries
    next n = let e : n + 1 ≡ suc n = omega arith in rw e refl

pub merges_in_order : (at low : ℕ) (entries : List Entry) → low ≤ at → AreEntries at low entries →
    (low ≤ merge_after low entries) × (merge_after low entries ≤ at + length entries)
merges_in_order at low [] le are = (omega arith, omega arith)
merges_in_order at low (Commit ops ∷ entries) le are =
    let rest = merges_in_order (at + 1) low entries (omega arith) are.2 in (rest.0, omega (arith, rest.1))
merges_in_order at low (Forget to ∷ entries) le are =
    let from : low ≤ to = are.0 in
    let till : to ≤ at = are.1 in
    let rest = merges_in_order (at + 1) to entries (omega arith) are.2 in (omega (arith, rest.0), omega (arith, rest.1))

-- a version that the base has
record IsOld (h : History) (at : ℕ) (uri : List ℕ) (v : Version) : Type 0 where
  pub from : ℕ
  pub low : h.base.merge ≤ from
  pub high : from ≤ h.base.front
  pub before : from ≤ at
  pub there : get (base_at h.base from) uri ≡ Some v

-- a version that an entry created
record IsNew (h : History) (at : ℕ) (uri : List ℕ) (v : Version) : Type 0 where
  pub nth : ℕ
  pub first : 1 ≤ nth
  pub stamp : v.created ≡ h.base.front + nth
  pub before : h.base.front + nth ≤ at
  pub key : v.document.uri ≡ uri
  pub there : get (after_entries h.base.front (take nth h.entries) (base_at h.base h.base.front)) uri ≡ Some v

module _ (h : History) where
  origin : (at : ℕ) (uri : List ℕ) (v : Version) → h.base.merge ≤ h.base.front → h.base.merge ≤ at →
      get (database_at h at) uri ≡ Some v →
      IsOld h at uri v ⊎ IsNew h at uri v
  origin at uri v ordered low is = ⊎_elim
      (λ (old : (leb at h.base.front ≡ true) × (at ≤ h.base.front)). inl (record {
        from = at;
        low = low;
        high = old.1;
        before = omega arith;
        there = ap (λ db. get db uri) (sym (cond-true (leb at h.base.front) (base_at h.base at) later old.0)) ∙ is;
      }))
      (λ (past : (leb at h.base.front ≡ false) × (h.base.front < at)).
      let found : get later uri ≡ Some v =
      ap (λ db. get db uri) (sym (cond-false (leb at h.base.front) (base_at h.base at) later past.0)) ∙ is in
      ⊎_elim
      (λ was. inl (record {
        from = h.base.front;
        low = ordered;
        high = omega arith;
        before = omega (arith, past.1);
        there = was;
      }))
      (λ (put : IsPut h.base.front (take n h.entries) (base_at h.base h.base.front) uri v).
      let within : put.nth ≤ n = omega (arith, put.last, length-take n h.entries) in
      inr (record {
        nth = put.nth;
        first = put.first;
        stamp = put.stamp;
        before = omega (arith, past.1);
        key = put.key;
        there = ap (λ es. get (after_entries h.base.front es (base_at h.base h.base.front)) uri)
            (sym (take-take put.nth n h.entries within)) ∙ put.there;
      }))
      (found_after_entries h.base.front (take n h.entries) (base_at h.base h.base.front) uri v found))
      (leb_tells at h.base.front)
    where
      n : ℕ
      n = at - h.base.front

      later : Database
      later = after_entries h.base.front (take (at - h.base.front) h.entries) (base_at h.base h.base.front)

  -- a version that is shown, at a timestamp from the merge timestamp to the front
  record IsShown (at : ℕ) (uri : List ℕ) (v : Version) : Type 0 where
    pub to : ℕ
    pub low : merge h ≤ to
    pub high : to ≤ front h
    pub same : merge h ≤ at → to ≡ at
    pub there : get (database_at h to) uri ≡ Some v

  shown_at : (at : ℕ) (uri : List ℕ) (v : Version) → merge h ≤ front h → get (base_at (shown h) at) uri ≡ Some v →
      IsShown at uri v
  shown_at at uri v ordered is = ⊎_elim
      (λ (past : (leb count i ≡ true) × (count ≤ i)).
      absurd (none_some v (sym (get-empty (slice_cmp nat_cmp) uri) ∙
      ap (λ db. get db uri)
      (sym (get_or_past (shown h).databases i empty
      (omega (arith, length-map-range_with_len (database_at h) (merge h) count, past.1)))) ∙ is)))
      (λ (within : (leb count i ≡ false) × (i < count)). record {
        to = merge h + i;
        low = omega arith;
        high = omega (arith, within.1);
        same = λ le. omega arith;
        there = ap (λ db. get db uri)
            (sym (get_or-map-range_with_len (database_at h) (merge h) count i (merge h + i) empty within.1 refl)) ∙
            is;
      })
      (leb_tells count i)
    where
      i : ℕ
      i = at - merge h

      count : ℕ
      count = front h + 1 - merge h

pub shown_is_a_base : ShownIsABase
shown_is_a_base h is = record {
  ordered = in_order.1;
  each = length-map-range_with_len (database_at h) (merge h) (front h + 1 - merge h);
  uris = λ at uri v got. key uri v (found at uri v (shown_at h at uri v in_order.1 got));
  stamps = λ at uri v low high got. stamp at uri v low (shown_at h at uri v in_order.1 got);
  same = λ at to uri v w got other created.
      alike uri v w (found at uri v (shown_at h at uri v in_order.1 got))
      (found to uri w (shown_at h to uri w in_order.1 other)) created;
}
  where
    in_order : (h.base.merge ≤ merge h) × (merge h ≤ front h)
    in_order = merges_in_order h.base.front h.base.merge h.entries is.base.ordered is.entries

    found : (at : ℕ) (uri : List ℕ) (v : Version) → (s : IsShown h at uri v) → (to : ℕ) × (IsOld h to uri v ⊎ IsNew h to uri v)
    found at uri v s = (s.to, origin h s.to uri v is.base.ordered (omega (arith, in_order.0, s.low)) s.there)

    key : (uri : List ℕ) (v : Version) → (to : ℕ) × (IsOld h to uri v ⊎ IsNew h to uri v) → v.document.uri ≡ uri
    key uri v f = ⊎_elim (λ (old : IsOld h f.0 uri v). is.base.uris old.from uri v old.there)
        (λ (new : IsNew h f.0 uri v). new.key) f.1

    stamp : (at : ℕ) (uri : List ℕ) (v : Version) → merge h ≤ at → IsShown h at uri v → (1 ≤ v.created) × (v.created ≤ at)
    stamp at uri v low s =
        let to : s.to ≡ at = s.same low in
        ⊎_elim
        (λ (old : IsOld h s.to uri v).
        let created = is.base.stamps old.from uri v old.low old.high old.there in
        (created.0, omega (arith, created.1, old.before, to)))
        (λ (new : IsNew h s.to uri v). (omega (arith, new.stamp, new.first), omega (arith, new.stamp, new.before, to)))
        (found at uri v s).1

    alike : (uri : List ℕ) (v w : Version) → (to : ℕ) × (IsOld h to uri v ⊎ IsNew h to uri v) → (to : ℕ) ×
        (IsOld h to uri w ⊎ IsNew h to uri w) →
        v.created ≡ w.created → v ≡ w
    alike uri v w f g created = ⊎_elim
        (λ (old : IsOld h f.0 uri v).
        let stamped = is.base.stamps old.from uri v old.low old.high old.there in
        ⊎_elim
        (λ (also : IsOld h g.0 uri w). is.base.same old.from also.from uri v w old.there also.there created)
        (λ (new : IsNew h g.0 uri w). absurd (omega (arith, stamped.1, old.high, new.stamp, new.first, created)))
        g.1)
        (λ (new : IsNew h f.0 uri v). ⊎_elim
        (λ (old : IsOld h g.0 uri w).
        let stamped = is.base.stamps old.from uri w old.low old.high old.there in
        absurd (omega (arith, stamped.1, old.high, new.stamp, new.first, created)))
        (λ (also : IsNew h g.0 uri w).
        let nth : new.nth ≡ also.nth = omega (arith, new.stamp, also.stamp, created) in
        same_some v w
        (sym new.there ∙
        ap (λ n. get (after_entries h.base.front (take n h.entries) (base_at h.base h.base.front)) uri) nth ∙
        also.there))
        g.1)
        f.1
