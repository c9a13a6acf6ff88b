-- Where the versions of a history come from.
use Rattle.std.proofs.Common.{◌≡◌, ◌⊎◌, inl, inr, ⊎_elim, ℕ, zero, suc, ◌+◌, ◌-◌, ◌<◌, ◌≤◌, Bool, true, false, cond, leb, List, [], ◌∷◌, map, take, Option, Some, None, slice_get, bytes_eq, refl, sym, ap, ◌∙◌, subst, arith}
use Rattle.std.proofs.lemmas.Bool.{cond-false, cond-true}
use Rattle.std.proofs.lemmas.Bool.Decides.{leb_tells}
use Rattle.std.proofs.lemmas.Cmp.{nat_list_cmp_total}
use Rattle.std.proofs.lemmas.Map.Text.{is_eq-slice_cmp}
use Rattle.std.proofs.lemmas.Slice.Eq.{bytes_eq-Decides}
use Rattle.std.specs.FinMap.{empty, get, get-insert, get-remove}
use Rattle.doc_model.specs.Operations.{uri_of}
use Rattle.doc_model.specs.Tree.{is_distinct}
use Rattle.doc_model.specs.declared.entry.Entry.{Entry}
use Rattle.doc_model.specs.declared.entry.Entry.TheVariants.{Commit, Forget}
use Rattle.doc_model.specs.declared.op.Op.{Op}
use Rattle.doc_model.specs.declared.op.Op.TheVariants.{Put, Remove}
use Rattle.doc_meaning.specs.declared.version.Version.{Version}
use Rattle.doc_meaning.specs.History.{AreEntries, Database, History, IsVersion, PutsVersion, after_entries, after_entry, after_op, after_ops, base_at}
use Rattle.doc_meaning.specs.VersionLaws.{DatabasesHaveVersions, OneVersionPerStamp}
use Rattle.doc_meaning.proofs.CommitLemmas.{ops_leave}
use Rattle.doc_meaning.proofs.PrefixLemmas.{get_in_prefix}
use Rattle.doc_meaning.proofs.ShownLemmas.{none_some, same_some}

-- an operation puts a version under a URI, at a timestamp
record IsPutBy (at : ℕ) (op : Op) (uri : List ℕ) (v : Version) : Type 0 where
  pub expect : Option ℕ
  pub put : op ≡ Put v.document expect
  pub stamp : v.created ≡ at
  pub key : v.document.uri ≡ uri

op_puts : (at : ℕ) (op : Op) (db : Database) (uri : List ℕ) (v : Version) → get (after_op at op db) uri ≡ Some v →
    IsPutBy at op uri v ⊎ (get db uri ≡ Some v)
op_puts at (Put document expect) db uri v is = go (bytes_eq uri document.uri) refl
  where
    told : get (after_op at (Put document expect) db) uri ≡ cond (bytes_eq uri document.uri)
        (Some (record { document = document; created = at })) (get db uri)
    told = get-insert nat_list_cmp_total db document.uri _ uri ∙
        ap (λ b. cond b (Some (record { document = document; created = at })) (get db uri))
        (is_eq-slice_cmp uri document.uri)

    go : (b : Bool) → bytes_eq uri document.uri ≡ b → IsPutBy at (Put document expect) uri v ⊎ (get db uri ≡ Some v)
    go true e =
        let put : record { document = document; created = at } ≡ v =
        same_some _ v (sym (told ∙ cond-true _ _ _ e) ∙ is) in
        inl (record {
          expect = expect;
          put = ap (λ (w : Version). Put w.document expect) put;
          stamp = sym (ap (λ (w : Version). w.created) put);
          key = sym (ap (λ (w : Version). w.document.uri) put) ∙ sym ((bytes_eq-Decides uri document.uri).0 e);
        })
    go false e = inr (sym (told ∙ cond-false _ _ _ e) ∙ is)
op_puts at (Remove removed expect) db uri v is = go (bytes_eq uri removed) refl
  where
    told : get (after_op at (Remove removed expect) db) uri ≡ cond (bytes_eq uri removed) None (get db uri)
    told = get-remove nat_list_cmp_total db removed uri ∙
        ap (λ b. cond b None (get db uri)) (is_eq-slice_cmp uri removed)

    go : (b : Bool) → bytes_eq uri removed ≡ b → IsPutBy at (Remove removed expect) uri v ⊎ (get db uri ≡ Some v)
    go true e = absurd (none_some v (sym (told ∙ cond-true _ _ _ e) ∙ is))
    go false e = inr (sym (told ∙ cond-false _ _ _ e) ∙ is)

ops_put : (at : ℕ) (ops : List Op) (db : Database) (uri : List ℕ) (v : Version) →
    get (after_ops at ops db) uri ≡ Some v →
    (PutsVersion at (Commit ops) v × (v.document.uri ≡ uri)) ⊎ (get db uri ≡ Some v)
ops_put at [] db uri v is = inr is
ops_put at (op ∷ ops) db uri v is = ⊎_elim
    (λ (later : PutsVersion at (Commit ops) v × (v.document.uri ≡ uri)).
    inl ((suc later.0.0, later.0.1, later.0.2, later.0.3), later.1))
    (λ was. ⊎_elim
    (λ (now : IsPutBy at op uri v). inl ((0, now.expect, ap (λ o. Some o) now.put, now.stamp), now.key))
    (λ old. inr old)
    (op_puts at op db uri v was))
    (ops_put at ops (after_op at op db) uri v is)

entry_puts : (at : ℕ) (entry : Entry) (db : Database) (uri : List ℕ) (v : Version) →
    get (after_entry at entry db) uri ≡ Some v →
    (PutsVersion at entry v × (v.document.uri ≡ uri)) ⊎ (get db uri ≡ Some v)
entry_puts at (Commit ops) db uri v is = ops_put at ops db uri v is
entry_puts at (Forget to) db uri v is = inr is

-- some entry puts a version under a URI
record IsPutAmong (begin : ℕ) (entries : List Entry) (uri : List ℕ) (v : Version) : Type 0 where
  pub nth : ℕ
  pub entry : Entry
  pub there : slice_get entries nth ≡ Some entry
  pub puts : PutsVersion (begin + nth + 1) entry v
  pub key : v.document.uri ≡ uri

entries_put : (begin : ℕ) (entries : List Entry) (db : Database) (uri : List ℕ) (v : Version) →
    get (after_entries begin entries db) uri ≡ Some v → IsPutAmong begin entries uri v ⊎ (get db uri ≡ Some v)
entries_put begin [] db uri v is = inr is
entries_put begin (entry ∷ entries) db uri v is = ⊎_elim
    (λ (later : IsPutAmong (begin + 1) entries uri v). inl (record {
      nth = suc later.nth;
      entry = later.entry;
      there = later.there;
      puts = subst (λ n. PutsVersion n later.entry v) (further later.nth) later.puts;
      key = later.key;
    }))
    (λ was. ⊎_elim
    (λ (now : PutsVersion (begin + 1) entry v × (v.document.uri ≡ uri)). inl (record {
      nth = 0;
      entry = entry;
      there = refl;
      puts = subst (λ n. PutsVersion n entry v) here now.0;
      key = now.1;
    }))
    (λ old. inr old)
    (entry_puts (begin + 1) entry db uri v was))
    (entries_put (begin + 1) entries (after_entry (begin + 1) entry db) uri v is)
  where
    further : (n : ℕ) → (begin + 1) + n + 1 ≡ begin + suc n + 1
    further n = omega arith

    here : begin + 1 ≡ begin + 0 + 1
    here = omega arith

pub databases_have_versions : DatabasesHaveVersions
databases_have_versions h at uri v is low got = ⊎_elim
    (λ (old : (leb at h.base.front ≡ true) × (at ≤ h.base.front)).
    in_base at low old.1
    (ap (λ db. get db uri) (sym (cond-true (leb at h.base.front) (base_at h.base at) later old.0)) ∙ got))
    (λ (past : (leb at h.base.front ≡ false) × (h.base.front < at)). ⊎_elim
    (λ (put : IsPutAmong h.base.front (take n h.entries) uri v).
    (inr (put.nth, put.entry, get_in_prefix n put.nth h.entries put.entry put.there, put.puts), put.key))
    (λ was. in_base h.base.front is.ordered (omega arith) was)
    (entries_put h.base.front (take n h.entries) (base_at h.base h.base.front) uri v
    (ap (λ db. get db uri) (sym (cond-false (leb at h.base.front) (base_at h.base at) later past.0)) ∙ got)))
    (leb_tells at h.base.front)
  where
    n : ℕ
    n = at - h.base.front

    later : Database
    later = after_entries h.base.front (take (at - h.base.front) h.entries) (base_at h.base h.base.front)

    in_base : (from : ℕ) → h.base.merge ≤ from → from ≤ h.base.front → get (base_at h.base from) uri ≡ Some v →
        IsVersion h v × (v.document.uri ≡ uri)
    in_base from above below there =
        let key : v.document.uri ≡ uri = is.uris from uri v there in
        (inl (from, above, below, ap (get (base_at h.base from)) key ∙ there), key)

commit_is_distinct : (at low k : ℕ) (entries : List Entry) (ops : List Op) → AreEntries at low entries →
    slice_get entries k ≡ Some (Commit ops) → is_distinct (map uri_of ops) ≡ true
commit_is_distinct at low k [] ops are is = absurd (none_some (Commit ops) is)
commit_is_distinct at low zero (Commit these ∷ entries) ops are is =
    let same : these ≡ ops = cc in subst (λ os. is_distinct (map uri_of os) ≡ true) same are.1
commit_is_distinct at low zero (Forget to ∷ entries) ops are is = absurd (other is)
  where
    other : Some (Forget to) ≡ Some (Commit ops) → ⊥
    other e = cc
commit_is_distinct at low (suc k) (Commit these ∷ entries) ops are is =
    commit_is_distinct (at + 1) low k entries ops are.2 is
commit_is_distinct at low (suc k) (Forget to ∷ entries) ops are is =
    commit_is_distinct (at + 1) to k entries ops are.2 is

puts_stamp : (at : ℕ) (entry : Entry) (v : Version) → PutsVersion at entry v → v.created ≡ at
puts_stamp at (Commit ops) v puts = puts.3
puts_stamp at (Forget to) v puts = absurd puts

-- what a commit of distinct URIs puts is found after it
put_is_found : (at : ℕ) (ops : List Op) (v : Version) → is_distinct (map uri_of ops) ≡ true →
    PutsVersion at (Commit ops) v →
    get (after_ops at ops empty) v.document.uri ≡ Some v
put_is_found at ops v distinct puts =
    ops_leave at ops empty puts.0 (Put v.document puts.1) distinct puts.2 ∙
    ap (λ n. Some (record { document = v.document; created = n })) (sym puts.3)

one_put : (at : ℕ) (entry : Entry) (v w : Version) →
    ((ops : List Op) → entry ≡ Commit ops → is_distinct (map uri_of ops) ≡ true) →
    PutsVersion at entry v → PutsVersion at entry w → v.document.uri ≡ w.document.uri → v ≡ w
one_put at (Commit ops) v w distinct puts also uri = same_some v w
    (sym (put_is_found at ops v (distinct ops refl) puts) ∙ ap (get (after_ops at ops empty)) uri ∙
    put_is_found at ops w (distinct ops refl) also)
one_put at (Forget to) v w distinct puts also uri = absurd puts

-- the two parts of what a version is: the base has it, or an entry puts it
abbrev IsInBase : History → Version → Type 0
IsInBase h v = (at : ℕ) × (h.base.merge ≤ at) × (at ≤ h.base.front) × (get (base_at h.base at) v.document.uri ≡ Some v)

abbrev IsInEntries : History → Version → Type 0
IsInEntries h v =
    (k : ℕ) × (entry : Entry) × (slice_get h.entries k ≡ Some entry) × PutsVersion (h.base.front + k + 1) entry v

pub one_version_per_stamp : OneVersionPerStamp
one_version_per_stamp h v w is has also uri created = ⊎_elim
    (λ (old : IsInBase h v). ⊎_elim
    (λ (other : IsInBase h w). is.base.same old.0 other.0 v.document.uri v w old.3
    (ap (get (base_at h.base other.0)) uri ∙ other.3) created)
    (λ (other : IsInEntries h w). absurd (apart v w old other created))
    also)
    (λ (new : IsInEntries h v). ⊎_elim
    (λ (other : IsInBase h w). absurd (apart w v other new (sym created)))
    (λ (other : IsInEntries h w).
    let nth : other.0 ≡ new.0 = omega (arith, created, stamp v new, stamp w other) in
    let same : other.1 ≡ new.1 =
    same_some other.1 new.1 (sym other.2 ∙ ap (slice_get h.entries) nth ∙ new.2) in
    one_put (h.base.front + new.0 + 1) new.1 v w
    (λ ops e. commit_is_distinct h.base.front h.base.merge new.0 h.entries ops is.entries (new.2 ∙ ap (λ x. Some x) e))
    new.3
    (subst (λ x. PutsVersion (h.base.front + new.0 + 1) x w) same
    (subst (λ n. PutsVersion (h.base.front + n + 1) other.1 w) nth other.3))
    uri)
    also)
    has
  where
    stamp : (x : Version) (new : IsInEntries h x) → x.created ≡ h.base.front + new.0 + 1
    stamp x new = puts_stamp (h.base.front + new.0 + 1) new.1 x new.3

    apart : (x y : Version) → IsInBase h x → IsInEntries h y → x.created ≡ y.created → ⊥
    apart x y old new e =
        omega (arith, (is.base.stamps old.0 x.document.uri x old.1 old.2 old.3).1, old.2, stamp y new, e)
