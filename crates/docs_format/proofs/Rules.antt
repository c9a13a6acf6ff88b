-- What fits the format of documents keeps each rule but that of the size, and what keeps every rule fits it.
use Rattle.std.proofs.Common.{◌≡◌, ℕ, ◌≤◌, ◌<◌, ◌^◌, Bool, true, false, ◌&&◌, not, cond, nat_le, nat_lt, List, [], ◌∷◌}
use Rattle.std.proofs.Common.{length, sum_by, Some, None, Option, Ok, refl, sym, subst, ◌∙◌, ◌≢◌, arith, inl, inr}
use Rattle.std.proofs.Common.{is_none, rules}
use Rattle.std.specs.Prelude.{IsTrue}
use Rattle.std.specs.Cmp.Lexicographic.{slice_cmp}
use Rattle.std.specs.List.{list_all}
use Rattle.std.specs.Ordering.{nat_cmp, is_lt}
use Rattle.std.specs.Str.{is_utf8}
use Rattle.std.proofs.lemmas.Bool.{and_from, and_parts, le-leb, le-ltb, leb-true, lt-ltb, ltb-false, not-false}
use Rattle.byte_formats.specs.Fields.{listed, text}
use Rattle.byte_formats.specs.Format.{Format, keeping, many}
use Rattle.doc_model.specs.Documents.{PlainDocument, IsDocument, IsRefused, broken_rule, document_size}
use Rattle.doc_model.specs.Tree.{depth, has_distinct_names}
use Rattle.doc_model.specs.Uri.{is_collections, is_name, is_rising, is_uri}
use Rattle.doc_model.specs.declared.node.Node.{Node}
use Rattle.doc_model.specs.declared.refusal.DocRefusal.{DocRefusal}
use Rattle.doc_model.specs.declared.refusal.DocRefusal.TheVariants as rule
use Rattle.docs_format.specs.DocumentFormat.{as_last, collection, fields}
use Rattle.docs_format.specs.NodeFormat as format
use Rattle.docs_format.specs.Reading.{is_next}
use Rattle.docs_format.specs.Spelling as spell
use Rattle.docs_format.proofs.Fits.{node_fits, node_sound}

-- ---- collections

collections_sound : (last : List ℕ) (names : List (List ℕ))
    → (many collection as_last last (length names)).fits names ≡ true
    → (list_all is_name names ≡ true) × (list_all is_utf8 names ≡ true) × (is_rising (last ∷ names) ≡ true)
unfolding many
collections_sound last [] h = (refl, refl, refl)
collections_sound last (n ∷ ns) h =
    let rising : Bool = is_lt (slice_cmp nat_cmp last n) in
    let p = and_parts ((collection last).fits n) ((many collection as_last n (length ns)).fits ns) h in
    let q = and_parts (text.fits n) (is_next last n) p.0 in
    let t = and_parts (nat_lt (length n) (2 ^ 32)) (is_utf8 n) q.0 in
    let a = and_parts (is_name n) rising q.1 in
    let r = collections_sound n ns p.1 in (
      and_from (is_name n) (list_all is_name ns) a.0 r.0,
      and_from (is_utf8 n) (list_all is_utf8 ns) t.1 r.1,
      and_from rising (is_rising (n ∷ ns)) a.1 r.2,
    )

collections_fit : (last : List ℕ) (names : List (List ℕ)) → list_all is_name names ≡ true
    → list_all is_utf8 names ≡ true → is_rising (last ∷ names) ≡ true
    → (many collection as_last last (length names)).fits names ≡ true
unfolding many
collections_fit last [] n u r = refl
collections_fit last (x ∷ xs) n u r =
    let rising : Bool = is_lt (slice_cmp nat_cmp last x) in
    let ns = and_parts (is_name x) (list_all is_name xs) n in
    let us = and_parts (is_utf8 x) (list_all is_utf8 xs) u in
    let rs = and_parts rising (is_rising (x ∷ xs)) r in
    let size = and_parts (nat_le 1 (length x)) (nat_le (length x) 1024) ns.0 in
    let small : length x ≤ 1024 = leb-true (length x) 1024 size.1 in
    let short : nat_lt (length x) (2 ^ 32) ≡ true = lt-ltb (length x) (2 ^ 32) (omega (arith, small)) in
    and_from ((collection last).fits x) ((many collection as_last x (length xs)).fits xs)
    (and_from (text.fits x) (is_next last x) (and_from (nat_lt (length x) (2 ^ 32)) (is_utf8 x) short us.0)
    (and_from (is_name x) rising ns.0 rs.0))
    (collections_fit x xs ns.1 us.1 rs.1)

behind_first : (names : List (List ℕ)) → is_rising ([] ∷ names) ≡ true → is_rising names ≡ true
behind_first [] r = refl
behind_first (n ∷ ns) r = (and_parts (is_lt (slice_cmp nat_cmp [] n)) (is_rising (n ∷ ns)) r).1

first_rises : (names : List (List ℕ)) → list_all is_name names ≡ true → is_rising names ≡ true
    → is_rising ([] ∷ names) ≡ true
first_rises [] n r = refl
first_rises ([] ∷ ns) n r = absurd cc
first_rises ((b ∷ bs) ∷ ns) n r = r

abbrev inner : Format (List (List ℕ))
inner = listed (λ n. nat_le n 64) collection as_last []

inner_sound : (names : List (List ℕ)) → inner.fits names ≡ true
    → (is_collections names ≡ true) × (list_all is_utf8 names ≡ true)
inner_sound names h =
    let each : Bool = (many collection as_last [] (length names)).fits names in
    let p = and_parts (nat_lt (length names) (256 ^ 4) && nat_le (length names) 64) each h in
    let q = and_parts (nat_lt (length names) (256 ^ 4)) (nat_le (length names) 64) p.0 in
    let s = collections_sound [] names p.1 in (
      and_from (nat_le (length names) 64 && list_all is_name names) (is_rising names)
          (and_from (nat_le (length names) 64) (list_all is_name names) q.1 s.0) (behind_first names s.2),
      s.1,
    )

inner_fits : (names : List (List ℕ)) → is_collections names ≡ true → list_all is_utf8 names ≡ true
    → inner.fits names ≡ true
inner_fits names c u =
    let each : Bool = (many collection as_last [] (length names)).fits names in
    let p = and_parts (nat_le (length names) 64 && list_all is_name names) (is_rising names) c in
    let q = and_parts (nat_le (length names) 64) (list_all is_name names) p.0 in
    let few : length names ≤ 64 = leb-true (length names) 64 q.0 in
    and_from (nat_lt (length names) (256 ^ 4) && nat_le (length names) 64) each
    (and_from (nat_lt (length names) (256 ^ 4)) (nat_le (length names) 64)
    (lt-ltb (length names) (256 ^ 4) (omega (arith, few))) q.0)
    (collections_fit [] names q.1 u (first_rises names q.1 p.1))

-- ---- documents

-- the rules that fields show
pub record KeepsFields (d : PlainDocument) : Type 0 where
  pub uri : is_uri d.uri ≡ true
  pub collections : is_collections d.collections ≡ true
  pub depth : depth d.root ≤ 128
  pub names : has_distinct_names d.root ≡ true

pub fields_keep : (d : PlainDocument) → fields.fits d ≡ true → KeepsFields d × (spell.are_values d ≡ true)
unfolding fields
fields_keep d h =
    let root : Format Node = format.node 128 in
    let p = and_parts ((keeping is_uri text).fits d.uri) (inner.fits d.collections && root.fits d.root) h in
    let q = and_parts (inner.fits d.collections) (root.fits d.root) p.1 in
    let u = and_parts (text.fits d.uri) (is_uri d.uri) p.0 in
    let t = and_parts (nat_lt (length d.uri) (2 ^ 32)) (is_utf8 d.uri) u.0 in
    let c = inner_sound d.collections q.0 in
    let n = node_sound 128 d.root q.1 in (
      record { uri = u.1; collections = c.0; depth = n.depth; names = n.names },
      and_from (is_utf8 d.uri && list_all is_utf8 d.collections) (spell.has_values d.root)
          (and_from (is_utf8 d.uri) (list_all is_utf8 d.collections) t.1 c.1) n.values,
    )

pub fields_fit : (d : PlainDocument) → KeepsFields d → document_size d ≤ 2 ^ 24 → spell.are_values d ≡ true
    → fields.fits d ≡ true
unfolding fields
fields_fit d k small v =
    let root : Format Node = format.node 128 in
    let vs = and_parts (is_utf8 d.uri && list_all is_utf8 d.collections) (spell.has_values d.root) v in
    let us = and_parts (is_utf8 d.uri) (list_all is_utf8 d.collections) vs.0 in
    let short : length d.uri < 2 ^ 32 = omega (arith, small) in
    and_from ((keeping is_uri text).fits d.uri) (inner.fits d.collections && root.fits d.root)
    (and_from (text.fits d.uri) (is_uri d.uri)
    (and_from (nat_lt (length d.uri) (2 ^ 32)) (is_utf8 d.uri) (lt-ltb (length d.uri) (2 ^ 32) short) us.0) k.uri)
    (and_from (inner.fits d.collections) (root.fits d.root) (inner_fits d.collections k.collections us.1)
    (node_fits 128 d.root (record {
      sound = record { values = vs.1; depth = k.depth; names = k.names };
      size = omega (arith, small);
    })))

pub only_size : (d : PlainDocument) → KeepsFields d
    → broken_rule d ≡ cond (nat_lt (2 ^ 24) (document_size d)) (Some rule.Size) None
only_size d k =
    let shallow : nat_lt 128 (depth d.root) ≡ false = le-ltb 128 (depth d.root) k.depth in
    rw (k.uri, k.collections, shallow, k.names) refl

-- what keeps the others breaks no rule but that of its size
pub refused_large : (d : PlainDocument) (why : DocRefusal) → KeepsFields d → IsRefused d why → why ≢ rule.Memory
    → nat_lt (2 ^ 24) (document_size d) ≡ true
refused_large d why k (inl memory) other = absurd (other memory)
refused_large d why k (inr broken) other =
    go (nat_lt (2 ^ 24) (document_size d)) (sym (only_size d k) ∙ broken)
  where
    go : (large : Bool) → cond large (Some rule.Size) None ≡ Some why → large ≡ true
    go true b = refl
    go false b = absurd cc

none_then : (b : Bool) (r : DocRefusal) (o : Option DocRefusal)
    → IsTrue (is_none (cond b (Some r) o)) → (b ≡ false) × IsTrue (is_none o)
none_then true r o h = absurd (search rules)
none_then false r o h = (refl, h)

-- a document keeps each rule
pub keeps : (d : PlainDocument) → IsDocument d → KeepsFields d × (document_size d ≤ 2 ^ 24)
keeps d h =
    let a = none_then (not (is_uri d.uri)) rule.Uri _ h in
    let b = none_then (not (is_collections d.collections)) rule.Collections _ a.1 in
    let c = none_then (nat_lt 128 (depth d.root)) rule.Depth _ b.1 in
    let n = none_then (not (has_distinct_names d.root)) rule.Names _ c.1 in
    let s = none_then (nat_lt (2 ^ 24) (document_size d)) rule.Size None n.1 in (
      record {
        uri = not-false (is_uri d.uri) a.0;
        collections = not-false (is_collections d.collections) b.0;
        depth = ltb-false 128 (depth d.root) c.0;
        names = not-false (has_distinct_names d.root) n.0;
      },
      ltb-false (2 ^ 24) (document_size d) s.0,
    )
