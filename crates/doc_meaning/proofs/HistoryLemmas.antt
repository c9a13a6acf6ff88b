-- The databases of a history with more entries, or with fewer.
use Rattle.std.proofs.Common.{◌≡◌, ℕ, ◌+◌, ◌-◌, ◌≤◌, cond, leb, List, [], ◌∷◌, ◌++◌, length, take, refl, sym, ap, ◌∙◌, arith, take_all}
use Rattle.std.proofs.lemmas.Bool.{cond-false, cond-true, le-leb, lt-leb}
use Rattle.std.proofs.lemmas.List.FromFn.{get_or-map-range_with_len}
use Rattle.std.specs.FinMap.{empty}
use Rattle.doc_model.specs.declared.entry.Entry.{Entry}
use Rattle.doc_model.specs.declared.entry.Entry.TheVariants.{Commit}
use Rattle.doc_model.specs.declared.op.Op.{Op}
use Rattle.doc_meaning.specs.History.{Base, Database, History, after_entries, after_entry, after_ops, base_at, database_at, front, latest, merge, shown}
use Rattle.doc_meaning.specs.Laws.{with_commit}

pub shown_is_the_same : (h : History) (at : ℕ) → merge h ≤ at → at ≤ front h → base_at (shown h) at ≡ database_at h at
shown_is_the_same h at low high = get_or-map-range_with_len (database_at h) (merge h) (front h + 1 - merge h)
    (at - merge h) at empty (omega arith) (omega arith)

after_entries-append : (at : ℕ) (xs : List Entry) (y : Entry) (db : Database) →
    after_entries at (xs ++ y ∷ []) db ≡ after_entry (at + length xs + 1) y (after_entries at xs db)
after_entries-append at [] y db = let e : at + 0 + 1 ≡ at + 1 = omega arith in rw e refl
after_entries-append at (x ∷ xs) y db =
    let e : (at + 1) + length xs + 1 ≡ at + length (x ∷ xs) + 1 = omega arith in
    after_entries-append (at + 1) xs y (after_entry (at + 1) x db) ∙ ap (λ n. after_entry n y (after_entries at (x ∷ xs) db)) e

latest_over : (base : Base) (entries : List Entry) →
    latest (record { base = base; entries = entries }) ≡ after_entries base.front entries (base_at base base.front)
latest_over base [] =
    let none : base.front + 0 ≡ base.front = omega arith in
    ap (λ at. cond (leb at base.front) (base_at base at) (after_entries base.front (take (at - base.front) [])
    (base_at base base.front))) none
    ∙ cond-true (leb base.front base.front) _ _ (le-leb base.front base.front (omega arith))
latest_over base (entry ∷ entries) =
    cond-false (leb (base.front + length (entry ∷ entries)) base.front) _ _
    (lt-leb (base.front + length (entry ∷ entries)) base.front (omega arith))
    ∙ ap (λ es. after_entries base.front es (base_at base base.front))
    (take_all (base.front + length (entry ∷ entries) - base.front) (entry ∷ entries) (omega arith))

-- the last database of a history with one more commit
pub latest_with_commit : (h : History) (ops : List Op) → latest (with_commit h ops) ≡ after_ops (front h + 1) ops (latest h)
latest_with_commit h ops =
    latest_over h.base (h.entries ++ Commit ops ∷ [])
    ∙ after_entries-append h.base.front h.entries (Commit ops) (base_at h.base h.base.front)
    ∙ ap (after_ops (front h + 1) ops) (sym (latest_over h.base h.entries))
