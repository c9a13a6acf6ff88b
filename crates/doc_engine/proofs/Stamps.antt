-- When what is live was created.
use Rattle.std.proofs.Common.{◌≡◌, ◌≤◌, ◌+◌, ℕ, Bool, true, false, cond, List, [], ◌∷◌, length, Option, None, Some}
use Rattle.std.proofs.Common.{sym, subst, ◌∙◌, arith}
use Rattle.std.proofs.lemmas.Cmp.{nat_list_cmp_total}
use Rattle.std.specs.Cmp.Lexicographic.{slice_cmp}
use Rattle.std.specs.FinMap.{get, get-insert, get-remove}
use Rattle.std.specs.Ordering.{eq_by_cmp, nat_cmp}
use Rattle.doc_engine.specs.Created.{CreatedBy}
use Rattle.doc_model.specs.declared.op.Op.{Op}
use Rattle.doc_model.specs.declared.op.Op.TheVariants.{Put, Remove}
use Rattle.doc_model.specs.declared.entry.Entry.{Entry}
use Rattle.doc_model.specs.declared.entry.Entry.TheVariants.{Commit, Forget}
use Rattle.doc_meaning.specs.History.{Database, after_entries, after_entry, after_op, after_ops}
use Rattle.doc_meaning.specs.declared.version.Version.{Version}

-- one of two versions is met
put_by : (b : Bool) (at : ℕ) (new v : Version) (o : Option Version) → new.created ≤ at
    → (o ≡ Some v → v.created ≤ at) → cond b (Some new) o ≡ Some v → v.created ≤ at
put_by true at new v o created old met =
    let same : new ≡ v = cc in
    subst (λ (w : Version). w.created ≤ at) same created
put_by false at new v o created old met = old met

gone_by : (b : Bool) (at : ℕ) (v : Version) (o : Option Version) → (o ≡ Some v → v.created ≤ at)
    → cond b None o ≡ Some v → v.created ≤ at
gone_by true at v o old met = absurd (cc)
gone_by false at v o old met = old met

op_by : (at : ℕ) (op : Op) (db : Database) → CreatedBy at db → CreatedBy at (after_op at op db)
op_by at (Put document expect) db by uri v met =
    let new : Version = record { document = document; created = at } in
    put_by (eq_by_cmp (slice_cmp nat_cmp) uri document.uri) at new v (get db uri) (omega arith) (by uri v)
    (sym (get-insert nat_list_cmp_total db document.uri new uri) ∙ met)
op_by at (Remove gone expect) db by uri v met =
    gone_by (eq_by_cmp (slice_cmp nat_cmp) uri gone) at v (get db uri) (by uri v)
    (sym (get-remove nat_list_cmp_total db gone uri) ∙ met)

-- after operations at a timestamp each version was created by it, where each before was
pub ops_by : (at : ℕ) (ops : List Op) (db : Database) → CreatedBy at db → CreatedBy at (after_ops at ops db)
ops_by at [] db by = by
ops_by at (op ∷ ops) db by = ops_by at ops (after_op at op db) (op_by at op db by)

-- a later timestamp serves as well
pub later_by : (at later : ℕ) (db : Database) → at ≤ later → CreatedBy at db → CreatedBy later db
later_by at later db le by uri v met = omega (arith, le, by uri v met)

entry_by : (at : ℕ) (entry : Entry) (db : Database) → CreatedBy at db
    → CreatedBy (at + 1) (after_entry (at + 1) entry db)
entry_by at (Commit ops) db by = ops_by (at + 1) ops db (later_by at (at + 1) db (omega arith) by)
entry_by at (Forget to) db by = later_by at (at + 1) db (omega arith) by

-- after entries each version was created by the last of them
pub entries_by : (at : ℕ) (entries : List Entry) (db : Database) → CreatedBy at db
    → CreatedBy (at + length entries) (after_entries at entries db)
entries_by at [] db by = later_by at (at + 0) db (omega arith) by
entries_by at (entry ∷ entries) db by =
    let there : at + 1 + length entries ≡ at + length (entry ∷ entries) = omega arith in
    subst (λ n. CreatedBy n (after_entries at (entry ∷ entries) db)) there
    (entries_by (at + 1) entries (after_entry (at + 1) entry db) (entry_by at entry db by))
