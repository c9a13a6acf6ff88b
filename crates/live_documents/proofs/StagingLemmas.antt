-- Puts and removals of distinct URIs, done in any order and undone.
use Rattle.std.proofs.Common.{◌≡◌, ℕ, Bool, true, false, cond, not, ◌||◌, ◌&&◌, List, [], ◌∷◌, ◌++◌, Option, None, Some}
use Rattle.std.proofs.Common.{is_some, append-nil, append_assoc, bytes_eq, refl, sym, ap, ◌∙◌}
use Rattle.std.proofs.lemmas.Bool.{and_parts, cond-false, cond-true, not-true, or_parts}
use Rattle.std.proofs.lemmas.Cmp.{nat_list_cmp_total, nat_list_eq_equiv, tied_itself}
use Rattle.std.proofs.lemmas.Map.Lookups.{exact_bytes}
use Rattle.std.proofs.lemmas.Map.Text.{is_eq-slice_cmp}
use Rattle.std.proofs.lemmas.Slice.Eq.{bytes_eq-Decides}
use Rattle.std.specs.Cmp.Lexicographic.{slice_cmp}
use Rattle.std.specs.FinMap.{contains_key, get, insert, remove, get-insert, get-remove, same_map}
use Rattle.std.specs.Ordering.{eq_by_cmp, is_eq, nat_cmp}
use Rattle.doc_model.specs.Documents.{PlainDocument}
use Rattle.doc_model.specs.Operations.{uri_of}
use Rattle.doc_model.specs.Tree.{is_among, is_distinct}
use Rattle.doc_model.specs.declared.op.Op.{Op}
use Rattle.doc_model.specs.declared.op.Op.TheVariants.{Put, Remove}
use Rattle.doc_meaning.proofs.DistinctLemmas.{no_more, nor_both}
use Rattle.doc_meaning.specs.declared.version.Version.{Version}
use Rattle.doc_meaning.specs.History.{Database, after_op}
use Rattle.live_documents.specs.declared.staged.Replaced.{Replaced}
use Rattle.live_documents.specs.Staging.{before_put, before_puts, live_again, removed_by, restored, without}

abbrev is_at : List ℕ → List ℕ → Bool
is_at q uri = eq_by_cmp (slice_cmp nat_cmp) q uri

same_uri : (q uri : List ℕ) → is_at q uri ≡ true → q ≡ uri
same_uri q uri h = (bytes_eq-Decides q uri).0 (sym (is_eq-slice_cmp q uri) ∙ h)

-- what two changes leave at a URI, of which the second hides the first
hidden : {X : Type 0} (b : Bool) (x y z : X) → (b ≡ true → x ≡ z) → cond b x (cond b y z) ≡ z
hidden true x y z h = h refl
hidden false x y z h = refl

turned : {X : Type 0} (a b : Bool) (x y z : X) → (a ≡ true → b ≡ true → ⊥) →
    cond a x (cond b y z) ≡ cond b y (cond a x z)
turned true true x y z h = absurd (h refl refl)
turned true false x y z h = refl
turned false b x y z h = refl

has_put : (db : Database) (uri : List ℕ) (v : Version) → contains_key (insert db uri v) uri ≡ true
has_put db uri v =
    ap is_some (get-insert nat_list_cmp_total db uri v uri
    ∙ cond-true _ (Some v) (get db uri) (ap is_eq (tied_itself nat_list_cmp_total uri)))

-- a put, and the version that it replaced put back
pub put_undone : (db : Database) (uri : List ℕ) (v : Version) (old : Option Version) → old ≡ get db uri →
    live_again uri old (insert db uri v) ≡ db
put_undone db uri v (Some w) was =
    cond-true _ _ _ (has_put db uri v)
    ∙ same_map nat_list_cmp_total exact_bytes _ _ (λ q.
    get-insert nat_list_cmp_total (insert db uri v) uri w q
    ∙ ap (cond (is_at q uri) (Some w)) (get-insert nat_list_cmp_total db uri v q)
    ∙ hidden (is_at q uri) (Some w) (Some v) (get db q) (λ h. was ∙ ap (get db) (sym (same_uri q uri h))))
put_undone db uri v None was =
    same_map nat_list_cmp_total exact_bytes _ _ (λ q.
    get-remove nat_list_cmp_total (insert db uri v) uri q
    ∙ ap (cond (is_at q uri) None) (get-insert nat_list_cmp_total db uri v q)
    ∙ hidden (is_at q uri) None (Some v) (get db q) (λ h. was ∙ ap (get db) (sym (same_uri q uri h))))

-- a version in the place of the one that is live
pub restored_there : (db new : Database) (uri : List ℕ) (v w : Version) → Some w ≡ get db uri → new ≡ insert db uri v →
    new ≡ restored uri v db
restored_there db new uri v w was put = put ∙ sym (cond-true _ _ _ (ap is_some (sym was)))

pub restored_nowhere : (db : Database) (uri : List ℕ) (v : Version) → None ≡ get db uri → db ≡ restored uri v db
restored_nowhere db uri v was = sym (cond-false _ _ _ (ap is_some (sym was)))

-- a put and a removal of another URI
remove_put : (db : Database) (uri other : List ℕ) (v : Version) → bytes_eq uri other ≡ false →
    remove (insert db uri v) other ≡ insert (remove db other) uri v
remove_put db uri other v apart =
    same_map nat_list_cmp_total exact_bytes _ _ (λ q.
    get-remove nat_list_cmp_total (insert db uri v) other q
    ∙ ap (cond (is_at q other) None) (get-insert nat_list_cmp_total db uri v q)
    ∙ turned (is_at q other) (is_at q uri) None (Some v) (get db q) (λ g h.
    let same : uri ≡ other = sym (same_uri q uri h) ∙ same_uri q other g in
    let met : bytes_eq uri other ≡ true = (bytes_eq-Decides uri other).1 same in
    cc)
    ∙ sym (get-insert nat_list_cmp_total (remove db other) uri v q
    ∙ ap (cond (is_at q uri) (Some v)) (get-remove nat_list_cmp_total db other q)))

-- a put, and removals of other URIs that came before it
pub without-put : (uris : List (List ℕ)) (db : Database) (uri : List ℕ) (v : Version) → is_among uris uri ≡ false →
    without uris (insert db uri v) ≡ insert (without uris db) uri v
without-put [] db uri v apart = refl
without-put (other ∷ uris) db uri v apart =
    let parts = or_parts (bytes_eq uri other) (is_among uris uri) apart in
    ap (without uris) (remove_put db uri other v parts.0) ∙ without-put uris (remove db other) uri v parts.1

-- one removal more
pub without-push : (uris : List (List ℕ)) (uri : List ℕ) (db : Database) →
    without (uris ++ uri ∷ []) db ≡ remove (without uris db) uri
without-push [] uri db = refl
without-push (first ∷ uris) uri db = without-push uris uri (remove db first)

-- one put more
pub before_puts-push : (rs : List Replaced) (r : Replaced) (db : Database) →
    before_puts (rs ++ r ∷ []) db ≡ before_puts rs (before_put r db)
before_puts-push [] r db = refl
before_puts-push (first ∷ rs) r db = ap (before_put first) (before_puts-push rs r db)

-- a put that is done before removals of other URIs, and a removal behind the others
module _ (at : ℕ) (op : Op) (uris : List (List ℕ)) where
  pub put_before : (document : PlainDocument) (expect : Option ℕ) → op ≡ Put document expect →
      not (is_among uris (uri_of op)) ≡ true → (old new : Database) →
      new ≡ insert old document.uri (record { document = document; created = at }) →
      without uris new ≡ after_op at op (without uris old)
  put_before document expect is apart old new put =
      let other : is_among uris document.uri ≡ false = ap (is_among uris) (sym (ap uri_of is)) ∙ not-true _ apart in
      ap (without uris) put ∙ without-put uris old document.uri _ other
      ∙ ap (λ o. after_op at o (without uris old)) (sym is)

  pub removed_last : (uri : List ℕ) (expect : Option ℕ) → op ≡ Remove uri expect →
      (more : List (List ℕ)) → more ≡ uris ++ uri ∷ [] → (db : Database) →
      without more db ≡ after_op at op (without uris db)
  removed_last uri expect is more noted db =
      ap (λ us. without us db) noted ∙ without-push uris uri db ∙ ap (λ o. after_op at o (without uris db)) (sym is)

-- of distinct URIs none is among those before it, and the others are distinct
pub parted : (uris : List (List ℕ)) (uri : List ℕ) (others : List (List ℕ)) →
    is_distinct (uris ++ uri ∷ others) ≡ true → (is_among uris uri ≡ false) × (is_distinct (uris ++ others) ≡ true)
parted [] uri others h = (refl, (and_parts (not (is_among others uri)) (is_distinct others) h).1)
parted (first ∷ uris) uri others h =
    let parts = and_parts (not (is_among (uris ++ uri ∷ others) first)) (is_distinct (uris ++ uri ∷ others)) h in
    let rest = parted uris uri others parts.1 in
    let apart = no_more uris (uri ∷ others) first (not-true _ parts.0) in
    let here = or_parts (bytes_eq first uri) (is_among others first) apart.1 in
    let other : bytes_eq uri first ≡ false = nat_list_eq_equiv.symm uri first ∙ here.0 in (
      ap (λ b. b || is_among uris uri) other ∙ rest.0,
      ap (λ b. not b && is_distinct (uris ++ others)) (nor_both uris others first apart.0 here.1) ∙ rest.1,
    )

-- the URIs that are to be removed, and those of the operations to come
pub apart_from_later : (op : Op) (uris others : List (List ℕ)) → is_distinct (uris ++ uri_of op ∷ others) ≡ true →
    not (is_among uris (uri_of op)) ≡ true
apart_from_later op uris others h = ap not (parted uris (uri_of op) others h).0

pub still_distinct : (op : Op) (uris others : List (List ℕ)) → is_distinct (uris ++ uri_of op ∷ others) ≡ true →
    is_distinct ((uris ++ removed_by op) ++ others) ≡ true
still_distinct (Put document expect) uris others h =
    ap (λ us. is_distinct (us ++ others)) (append-nil uris) ∙ (parted uris document.uri others h).1
still_distinct (Remove uri expect) uris others h = ap is_distinct (append_assoc uris (uri ∷ []) others) ∙ h
