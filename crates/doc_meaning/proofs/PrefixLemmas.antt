-- The first entries of a history, and the database after each.
use Rattle.std.proofs.Common.{◌≡◌, inl, inr, ⊎_elim, ℕ, zero, suc, ◌+◌, ◌-◌, ◌≤◌, leb, List, [], ◌∷◌, take, Some, slice_get, refl, sym, ap, ◌∙◌, arith}
use Rattle.std.proofs.lemmas.Bool.{cond-false, cond-true, le-leb, lt-leb}
use Rattle.std.proofs.lemmas.List.{length-take, take-take}
use Rattle.doc_model.specs.declared.entry.Entry.{Entry}
use Rattle.doc_model.specs.declared.entry.Entry.TheVariants.{Commit, Forget}
use Rattle.doc_meaning.specs.History.{AreEntries, Database, History, after_entries, after_entry, base_at, database_at, merge_after}
use Rattle.doc_meaning.specs.DatabaseLaws.{ForgetsChangeNothing, NextIsChanged}
use Rattle.doc_meaning.specs.PrefixLaws.{FirstIsAHistory, FirstMergesEarlier, FirstOfFirst, FirstVersionsStay}
use Rattle.doc_meaning.proofs.ShownLemmas.{merges_in_order, none_some}

prefix_rules : (at low n : ℕ) (entries : List Entry) → AreEntries at low entries → AreEntries at low (take n entries)
prefix_rules at low zero [] are = are
prefix_rules at low (suc n) [] are = are
prefix_rules at low zero (entry ∷ entries) are = tt
prefix_rules at low (suc n) (Commit ops ∷ entries) are = (are.0, are.1, prefix_rules (at + 1) low n entries are.2)
prefix_rules at low (suc n) (Forget to ∷ entries) are = (are.0, are.1, prefix_rules (at + 1) to n entries are.2)

prefix_merges : (at low n : ℕ) (entries : List Entry) → low ≤ at → AreEntries at low entries →
    merge_after low (take n entries) ≤ merge_after low entries
prefix_merges at low zero [] le are = omega arith
prefix_merges at low (suc n) [] le are = omega arith
prefix_merges at low zero (entry ∷ entries) le are = (merges_in_order at low (entry ∷ entries) le are).0
prefix_merges at low (suc n) (Commit ops ∷ entries) le are = prefix_merges (at + 1) low n entries (omega arith) are.2
prefix_merges at low (suc n) (Forget to ∷ entries) le are =
    let till : to ≤ at = are.1 in
    prefix_merges (at + 1) to n entries (omega arith) are.2

pub get_in_prefix : (n k : ℕ) (entries : List Entry) (entry : Entry) → slice_get (take n entries) k ≡ Some entry →
    slice_get entries k ≡ Some entry
get_in_prefix zero k [] entry is = is
get_in_prefix (suc n) k [] entry is = is
get_in_prefix zero k (e ∷ entries) entry is = absurd (none_some entry is)
get_in_prefix (suc n) zero (e ∷ entries) entry is = is
get_in_prefix (suc n) (suc k) (e ∷ entries) entry is = get_in_prefix n k entries entry is

pub first_is_a_history : FirstIsAHistory
first_is_a_history h at is = record {
  base = is.base;
  entries = prefix_rules h.base.front h.base.merge (at - h.base.front) h.entries is.entries;
}

pub first_merges_earlier : FirstMergesEarlier
first_merges_earlier h at is le = (
  omega (
    arith,
    le,
    length-take n h.entries,
    (merges_in_order h.base.front h.base.merge (take n h.entries) is.base.ordered
        (prefix_rules h.base.front h.base.merge n h.entries is.entries)).1,
  ),
  prefix_merges h.base.front h.base.merge n h.entries is.base.ordered is.entries,
)
  where
    n : ℕ
    n = at - h.base.front

pub first_of_first : FirstOfFirst
first_of_first h to at le = ap (λ es. record h { entries = es })
    (take-take (at - h.base.front) (to - h.base.front) h.entries (omega arith))

pub first_versions_stay : FirstVersionsStay
first_versions_stay h at v is = ⊎_elim (λ old. inl old)
    (λ new. inr (new.0, new.1, get_in_prefix (at - h.base.front) new.0 h.entries new.1 new.2, new.3)) is

-- the database after some entries
database_after : (h : History) (n : ℕ) →
    database_at h (h.base.front + n) ≡ after_entries h.base.front (take n h.entries) (base_at h.base h.base.front)
database_after h zero =
    let none : h.base.front + 0 ≡ h.base.front = omega arith in
    ap (database_at h) none ∙
    cond-true (leb h.base.front h.base.front) _ _ (le-leb h.base.front h.base.front (omega arith)) ∙
    ap (λ es. after_entries h.base.front es (base_at h.base h.base.front)) (sym (take_none h.entries))
  where
    take_none : (entries : List Entry) → take 0 entries ≡ []
    take_none [] = refl
    take_none (e ∷ entries) = refl
database_after h (suc n) =
    let back : h.base.front + suc n - h.base.front ≡ suc n = omega arith in
    cond-false (leb (h.base.front + suc n) h.base.front) _ _
    (lt-leb (h.base.front + suc n) h.base.front (omega arith)) ∙
    ap (λ m. after_entries h.base.front (take m h.entries) (base_at h.base h.base.front)) back

one_more : (begin k : ℕ) (entries : List Entry) (entry : Entry) (db : Database) → slice_get entries k ≡ Some entry →
    after_entries begin (take (suc k) entries) db
    ≡ after_entry (begin + k + 1) entry (after_entries begin (take k entries) db)
one_more begin k [] entry db is = absurd (none_some entry is)
one_more begin zero (e ∷ entries) entry db is =
    let same : e ≡ entry = cc in
    let at : begin + 1 ≡ begin + 0 + 1 = omega arith in
    first_alone entries (after_entry (begin + 1) e db) ∙ ap (λ n. after_entry n e db) at ∙
    ap (λ x. after_entry (begin + 0 + 1) x db) same
  where
    first_alone : (es : List Entry) (d : Database) → after_entries (begin + 1) (take 0 es) d ≡ d
    first_alone [] d = refl
    first_alone (x ∷ es) d = refl
one_more begin (suc k) (e ∷ entries) entry db is =
    let at : (begin + 1) + k + 1 ≡ begin + suc k + 1 = omega arith in
    one_more (begin + 1) k entries entry (after_entry (begin + 1) e db) is ∙
    ap (λ n. after_entry n entry (after_entries begin (take (suc k) (e ∷ entries)) db)) at

pub next_is_changed : NextIsChanged
next_is_changed h k entry is =
    let at : h.base.front + k + 1 ≡ h.base.front + suc k = omega arith in
    ap (database_at h) at ∙ database_after h (suc k) ∙
    one_more h.base.front k h.entries entry (base_at h.base h.base.front) is ∙
    ap (after_entry (h.base.front + k + 1) entry) (sym (database_after h k))

pub forgets_change_nothing : ForgetsChangeNothing
forgets_change_nothing h k to is = next_is_changed h k (Forget to) is
