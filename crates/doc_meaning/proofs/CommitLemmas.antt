-- What one commit leaves at each URI.
use Rattle.std.proofs.Common.{◌≡◌, ℕ, zero, suc, ◌+◌, not, true, false, List, [], ◌∷◌, map, Option, None, Some, slice_get, bytes_eq, refl, sym, ap, ◌∙◌}
use Rattle.std.proofs.lemmas.Bool.{and_parts, cond-false, cond-true, not-true, or_parts}
use Rattle.std.proofs.lemmas.Cmp.{nat_list_cmp_total, tied_itself}
use Rattle.std.proofs.lemmas.Map.Text.{is_eq-slice_cmp}
use Rattle.std.specs.FinMap.{get, get-insert, get-remove}
use Rattle.std.specs.Ordering.{is_eq}
use Rattle.doc_model.specs.Operations.{uri_of}
use Rattle.doc_model.specs.Tree.{is_among, is_distinct}
use Rattle.doc_model.specs.declared.op.Op.{Op}
use Rattle.doc_model.specs.declared.op.Op.TheVariants.{Put, Remove}
use Rattle.doc_meaning.specs.declared.version.Version.{Version}
use Rattle.doc_meaning.specs.History.{Database, after_op, after_ops, front, latest}
use Rattle.doc_meaning.specs.Laws.{OthersStay, PutIsLive, RemovedIsGone}
use Rattle.doc_meaning.proofs.HistoryLemmas.{latest_with_commit}

-- what an operation leaves at its URI
abbrev left_by : ℕ → Op → Option Version
left_by at (Put document expect) = Some (record { document = document; created = at })
left_by at (Remove uri expect) = None

other_stays : (at : ℕ) (op : Op) (db : Database) (uri : List ℕ) → bytes_eq uri (uri_of op) ≡ false →
    get (after_op at op db) uri ≡ get db uri
other_stays at (Put document expect) db uri other =
    get-insert nat_list_cmp_total db document.uri _ uri ∙ cond-false _ _ _ (is_eq-slice_cmp uri document.uri ∙ other)
other_stays at (Remove removed expect) db uri other =
    get-remove nat_list_cmp_total db removed uri ∙ cond-false _ _ _ (is_eq-slice_cmp uri removed ∙ other)

others_stay_after : (at : ℕ) (ops : List Op) (db : Database) (uri : List ℕ) → is_among (map uri_of ops) uri ≡ false →
    get (after_ops at ops db) uri ≡ get db uri
others_stay_after at [] db uri other = refl
others_stay_after at (op ∷ ops) db uri other =
    let parts = or_parts (bytes_eq uri (uri_of op)) (is_among (map uri_of ops) uri) other in
    others_stay_after at ops (after_op at op db) uri parts.1 ∙ other_stays at op db uri parts.0

op_leaves : (at : ℕ) (op : Op) (db : Database) → get (after_op at op db) (uri_of op) ≡ left_by at op
op_leaves at (Put document expect) db = get-insert nat_list_cmp_total db document.uri _ document.uri ∙
    cond-true _ _ _ (ap is_eq (tied_itself nat_list_cmp_total document.uri))
op_leaves at (Remove uri expect) db =
    get-remove nat_list_cmp_total db uri uri ∙ cond-true _ _ _ (ap is_eq (tied_itself nat_list_cmp_total uri))

pub ops_leave : (at : ℕ) (ops : List Op) (db : Database) (k : ℕ) (op : Op) → is_distinct (map uri_of ops) ≡ true →
    slice_get ops k ≡ Some op →
    get (after_ops at ops db) (uri_of op) ≡ left_by at op
ops_leave at [] db k op distinct is = absurd (subst_none is)
  where
    subst_none : None ≡ Some op → ⊥
    subst_none e = cc
ops_leave at (first ∷ ops) db zero op distinct is =
    let same : first ≡ op = cc in
    let parts = and_parts (not (is_among (map uri_of ops) (uri_of first))) (is_distinct (map uri_of ops)) distinct in
    ap (λ o. get (after_ops at ops (after_op at first db)) (uri_of o)) (sym same)
    ∙ others_stay_after at ops (after_op at first db) (uri_of first) (not-true _ parts.0)
    ∙ op_leaves at first db ∙ ap (left_by at) same
ops_leave at (first ∷ ops) db (suc k) op distinct is =
    let parts = and_parts (not (is_among (map uri_of ops) (uri_of first))) (is_distinct (map uri_of ops)) distinct in
    ops_leave at ops (after_op at first db) k op parts.1 is

pub put_is_live : PutIsLive
put_is_live h ops k document expect distinct is =
    ap (λ db. get db document.uri) (latest_with_commit h ops) ∙ ops_leave (front h + 1) ops (latest h) k
    (Put document expect) distinct is

pub removed_is_gone : RemovedIsGone
removed_is_gone h ops k uri expect distinct is =
    ap (λ db. get db uri) (latest_with_commit h ops) ∙ ops_leave (front h + 1) ops (latest h) k (Remove uri expect) distinct is

pub others_stay : OthersStay
others_stay h ops uri other =
    ap (λ db. get db uri) (latest_with_commit h ops) ∙ others_stay_after (front h + 1) ops (latest h) uri other
