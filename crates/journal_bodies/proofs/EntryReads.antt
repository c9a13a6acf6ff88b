-- An entry that is read is spelled so and keeps its rules, and a fault is among the bytes.
use Rattle.std.proofs.Common.{◌≡◌, ℕ, ◌+◌, ◌^◌, ◌<◌, ◌≤◌, ◌==◌, Bool, true, false, ◌&&◌, ◌||◌, not, cond, nat_le, nat_lt}
use Rattle.std.proofs.Common.{List, [], ◌∷◌, ◌++◌, map, length, sum_by, Option, Some, None, is_none, Ok, Err}
use Rattle.std.proofs.Common.{refl, ap, subst, ◌∙◌, arith}
use Rattle.std.specs.List.{list_all}
use Rattle.std.specs.Str.{is_utf8}
use Rattle.std.proofs.lemmas.Bool.{and_from, and_parts, eqb-false, eqb-true, le-ltb, leb-true, ltb-true, not-true}
use Rattle.doc_model.specs.Documents.{PlainDocument, broken_rule, document_size}
use Rattle.doc_model.specs.Operations.{broken_ops_rule, expect_of, op_size, uri_of}
use Rattle.doc_model.specs.Tree.{is_among, is_distinct}
use Rattle.doc_model.specs.Uri.{is_uri}
use Rattle.doc_model.specs.declared.entry.Entry.{Entry}
use Rattle.doc_model.specs.declared.entry.Entry.TheVariants.{Commit, Forget}
use Rattle.doc_model.specs.declared.op.Op.{Op}
use Rattle.doc_model.specs.declared.op.Op.TheVariants.{Put, Remove}
use Rattle.byte_formats.specs.Format.{◌>>=◌, Read}
use Rattle.docs_format.specs.Reading.{count_at, document_at, keeping, kind_at, uri_at}
use Rattle.docs_format.specs.Spelling.{are_values, count, document, text}
use Rattle.docs_format.proofs.Digits.{IsBytes}
use Rattle.docs_format.proofs.Fields.{Takes, kept_ok, uri_takes}
use Rattle.docs_format.proofs.Forward.{uri_forward}
use Rattle.docs_format.proofs.ForwardNodes.{document_forward}
use Rattle.docs_format.proofs.Rules.{KeepsFields, only_size}
use Rattle.docs_format.proofs.Takes.{document_kept, document_takes}
use Rattle.journal_bodies.specs.Entries.{HasValues, IsEntry, entry, expect, is_expect, op}
use Rattle.journal_bodies.specs.EntryReading.{entry_at, expect_at, fresh_at, is_expected, op_at, ops_at, put_at, said_at}
use Rattle.journal_bodies.specs.RootReading.{long_at}
use Rattle.journal_bodies.specs.Roots.{listed, long}
use Rattle.journal_bodies.proofs.OpLists.{AreRead, MayFollow, no_rule_broken, none_read, read_push}
use Rattle.journal_bodies.proofs.Puts.{document_uri, small}
use Rattle.journal_bodies.proofs.Steps.{Reads, byte, count_reads, from_takes, keeping_reads, kind_reads}
use Rattle.journal_bodies.proofs.Steps.{listed_reads, long_reads, start, step, weaken}
use Rattle.journal_bodies.proofs.Truths.{is_true}

abbrev Fits : ℕ → Type 0
Fits n = n < 2 ^ 64

kept_long : (rule : ℕ → Bool) (bytes : List ℕ) → IsBytes bytes
    → Reads long (λ n. (n < 2 ^ 64) × (rule n ≡ true)) bytes (keeping rule long_at bytes)
kept_long rule bytes fits = keeping_reads long Fits rule long_at bytes (long_reads bytes fits)

kept_byte : (rule : ℕ → Bool) (bytes : List ℕ) → IsBytes bytes
    → Reads byte (λ b. Unit {0} × (rule b ≡ true)) bytes (keeping rule kind_at bytes)
kept_byte rule bytes fits = keeping_reads byte (λ b. Unit {0}) rule kind_at bytes (kind_reads bytes fits)

-- ---- operations

abbrev IsStamp : Option ℕ → Type 0
IsStamp e = is_expect e ≡ true

expect_reads : (bytes : List ℕ) → IsBytes bytes → Reads expect IsStamp bytes (expect_at bytes)
unfolding expect_at
expect_reads bytes fits =
    step byte _ expect IsStamp bytes [] bytes (keeping (λ b. nat_le b 1) kind_at bytes) _ (start bytes fits)
    (kept_byte (λ b. nat_le b 1) bytes fits)
    (λ b t p. chosen b.0 b.1 (b.0 == 0) refl t (leb-true b.0 1 p.1))
  where
    given : (rest : List ℕ) → Takes bytes (1 ∷ []) rest
        → Reads expect IsStamp bytes (keeping (λ s. nat_lt s (2 ^ 48)) long_at rest >>= λ s. Ok (Some s.0, s.1))
    given rest t =
        step long _ expect IsStamp bytes (1 ∷ []) rest (keeping (λ s. nat_lt s (2 ^ 48)) long_at rest) _ t
        (kept_long (λ s. nat_lt s (2 ^ 48)) rest t.rest_fits) (λ s u q. (u, q.1))

    chosen : (b : ℕ) (rest : List ℕ) (zero : Bool) → (b == 0) ≡ zero → Takes bytes (b ∷ []) rest → b ≤ 1
        → Reads expect IsStamp bytes
        (cond zero (Ok (None, rest)) (keeping (λ s. nat_lt s (2 ^ 48)) long_at rest >>= λ s. Ok (Some s.0, s.1)))
    chosen b rest true z t le = (subst (λ (k : ℕ). Takes bytes (k ∷ []) rest) (eqb-true b 0 z) t, refl)
    chosen b rest false z t le =
        let differs : b ≡ 0 → ⊥ = eqb-false b 0 z in
        let one : b ≡ 1 = omega (arith, differs, le) in
        given rest (subst (λ (k : ℕ). Takes bytes (k ∷ []) rest) one t)

abbrev IsFresh : List (List ℕ) → List ℕ → Type 0
IsFresh others u = (is_utf8 u ≡ true) × (is_uri u ≡ true) × (is_among others u ≡ false)

fresh_reads : (others : List (List ℕ)) (bytes : List ℕ) → IsBytes bytes
    → Reads text (IsFresh others) bytes (fresh_at others bytes)
unfolding fresh_at
fresh_reads others bytes fits =
    let rule : List ℕ → Bool = λ u. not (is_among others u) in
    let IsText : List ℕ → Type 0 = λ u. (is_utf8 u ≡ true) × (is_uri u ≡ true) in
    weaken text (λ u. IsText u × (rule u ≡ true)) (IsFresh others) bytes (keeping rule uri_at bytes)
    (keeping_reads text IsText rule uri_at bytes
    (from_takes text IsText bytes (uri_at bytes)
    (λ x e. let t = uri_takes bytes x fits e in (t.0, (t.1, t.2))) (uri_forward [] bytes).within))
    (λ u h. (h.0.0, h.0.1, not-true (is_among others u) h.1))

uri_is : (others : List (List ℕ)) (bytes : List ℕ) (u : List ℕ × List ℕ) → fresh_at others bytes ≡ Ok u
    → uri_at bytes ≡ Ok u
unfolding fresh_at
uri_is others bytes u e = (kept_ok (λ uri. not (is_among others uri)) uri_at bytes u e).0

pub record IsPut (before : List Op) (d : PlainDocument) : Type 0 where
  pub rule : is_none (broken_rule d) ≡ true
  pub values : are_values d ≡ true
  pub fresh : is_among (map uri_of before) d.uri ≡ false
  pub sizes : sum_by op_size before + document_size d ≤ 2 ^ 24

abbrev IsRead : List ℕ → PlainDocument → Type 0
IsRead uri d = KeepsFields d × (are_values d ≡ true) × (d.uri ≡ uri)

document_reads : (bytes : List ℕ) (u : List ℕ × List ℕ) → IsBytes bytes → uri_at bytes ≡ Ok u
    → Reads document (IsRead u.0) bytes (document_at bytes)
document_reads bytes u fits e =
    from_takes document (IsRead u.0) bytes (document_at bytes)
    (λ x f.
    let t = document_takes bytes x fits f in
    (t.0, (document_kept bytes x fits f, t.1, document_uri bytes u x e f)))
    (document_forward [] bytes).within

put_reads : (before : List Op) (bytes : List ℕ) → IsBytes bytes → Reads document (IsPut before) bytes (put_at before bytes)
unfolding put_at
put_reads before bytes fits =
    go (fresh_at (map uri_of before) bytes) refl (fresh_reads (map uri_of before) bytes fits)
  where
    go : (first : Read (List ℕ)) → fresh_at (map uri_of before) bytes ≡ first
        → Reads text (IsFresh (map uri_of before)) bytes first
        → Reads document (IsPut before) bytes (first >>= λ uri. keeping (small before) document_at bytes)
    go (Err fault) e r = r
    go (Ok u) e r =
        weaken document (λ d. IsRead u.0 d × (small before d ≡ true)) (IsPut before) bytes
        (keeping (small before) document_at bytes)
        (keeping_reads document (IsRead u.0) (small before) document_at bytes
        (document_reads bytes u fits (uri_is (map uri_of before) bytes u e)))
        (λ d h.
        let sizes : sum_by op_size before + document_size d ≤ 2 ^ 24 =
        leb-true (sum_by op_size before + document_size d) (2 ^ 24) h.1 in
        let alone : nat_lt (2 ^ 24) (document_size d) ≡ false =
        le-ltb (2 ^ 24) (document_size d) (omega (arith, sizes)) in
        record {
          rule = rw (only_size d h.0.0, alone) refl;
          values = h.0.1;
          fresh = ap (is_among (map uri_of before)) h.0.2 ∙ r.1.2;
          sizes = sizes;
        })

op_reads : (before : List Op) (bytes : List ℕ) → IsBytes bytes → AreRead before
    → Reads op (λ o. AreRead (before ++ o ∷ [])) bytes (op_at before bytes)
unfolding op_at
op_reads before bytes fits are =
    let two : ℕ → Bool = λ b. (b == 1) || (b == 2) in
    weaken op (MayFollow before) (λ o. AreRead (before ++ o ∷ [])) bytes _
    (step byte _ op (MayFollow before) bytes [] bytes (keeping two kind_at bytes) _ (start bytes fits)
    (kept_byte two bytes fits)
    (λ k t p. step expect IsStamp op (MayFollow before) bytes (k.0 ∷ []) k.1 (expect_at k.1) _ t
    (expect_reads k.1 t.rest_fits)
    (λ e u q. chosen k.0 e.0 e.1 (k.0 == 1) (k.0 == 2) refl refl u q p.1)))
    (λ o m. read_push before o are m)
  where
    puts : (e : Option ℕ) (rest : List ℕ) → IsStamp e → Takes bytes (1 ∷ expect e) rest
        → Reads op (MayFollow before) bytes (put_at before rest >>= λ d. Ok (Put d.0 e, d.1))
    puts e rest q t =
        step document (IsPut before) op (MayFollow before) bytes (1 ∷ expect e) rest (put_at before rest) _ t
        (put_reads before rest t.rest_fits)
        (λ d u p. (
          u,
          record {
            values = and_from (is_none (broken_rule d.0)) (are_values d.0) p.rule p.values;
            expect = q;
            uri = refl;
            fresh = p.fresh;
            sizes = p.sizes;
          },
        ))

    removes : (e : Option ℕ) (rest : List ℕ) → IsStamp e → Takes bytes (2 ∷ expect e) rest
        → Reads op (MayFollow before) bytes (fresh_at (map uri_of before) rest >>= λ uri. Ok (Remove uri.0 e, uri.1))
    removes e rest q t =
        step text (IsFresh (map uri_of before)) op (MayFollow before) bytes (2 ∷ expect e) rest
        (fresh_at (map uri_of before) rest) _ t (fresh_reads (map uri_of before) rest t.rest_fits)
        (λ uri u p. (
          u,
          record {
            values = p.0;
            expect = q;
            uri = p.1;
            fresh = p.2;
            sizes = omega (arith, are.sizes);
          },
        ))

    chosen : (k : ℕ) (e : Option ℕ) (rest : List ℕ) (one two : Bool) → (k == 1) ≡ one → (k == 2) ≡ two
        → Takes bytes (k ∷ [] ++ expect e) rest → IsStamp e → (one || two) ≡ true
        → Reads op (MayFollow before) bytes
        (cond one (put_at before rest >>= λ d. Ok (Put d.0 e, d.1))
        (fresh_at (map uri_of before) rest >>= λ uri. Ok (Remove uri.0 e, uri.1)))
    chosen k e rest true two o w t q h =
        puts e rest q (subst (λ (b : ℕ). Takes bytes (b ∷ expect e) rest) (eqb-true k 1 o) t)
    chosen k e rest false true o w t q h =
        removes e rest q (subst (λ (b : ℕ). Takes bytes (b ∷ expect e) rest) (eqb-true k 2 w) t)
    chosen k e rest false false o w t q h = absurd cc

-- ---- entries

abbrev IsCount : ℕ → Type 0
IsCount n = (n < 2 ^ 32) × ((nat_le 1 n && nat_le n 1000) ≡ true)

ops_reads : (bytes : List ℕ) → IsBytes bytes
    → Reads (listed op) (λ ops. AreRead ops × IsCount (length ops)) bytes (ops_at bytes)
unfolding ops_at
ops_reads bytes fits =
    let rule : ℕ → Bool = λ n. nat_le 1 n && nat_le n 1000 in
    listed_reads op_at op AreRead op_reads IsCount bytes (keeping rule count_at bytes) fits
    (keeping_reads count (λ n. n < 2 ^ 32) rule count_at bytes (count_reads bytes fits)) none_read

pub record KeepsEntry (wanted : Option ℕ) (x : ℕ × Entry) : Type 0 where
  pub fits : x.0 < 2 ^ 64
  pub expected : is_expected wanted x.0 ≡ true
  pub rules : IsEntry x.0 x.1
  pub values : HasValues x.1

abbrev spell_said : Entry → List ℕ
spell_said (Commit ops) = listed op ops
spell_said (Forget stamp) = long stamp

abbrev kind_of : Entry → ℕ
kind_of (Commit ops) = 1
kind_of (Forget stamp) = 2

pub record IsSaid (kind number : ℕ) (e : Entry) : Type 0 where
  pub of_kind : kind ≡ kind_of e
  pub rules : IsEntry number e
  pub values : HasValues e

said_reads : (kind number : ℕ) (bytes : List ℕ) → IsBytes bytes → ((kind == 1) || (kind == 2)) ≡ true
    → Reads spell_said (IsSaid kind number) bytes (said_at kind number bytes)
unfolding said_at
said_reads kind number bytes fits two = chosen (kind == 1) (kind == 2) refl refl two
  where
    commits : kind ≡ 1 → Reads spell_said (IsSaid kind number) bytes (ops_at bytes >>= λ ops. Ok (Commit ops.0, ops.1))
    commits one =
        step (listed op) _ spell_said (IsSaid kind number) bytes [] bytes (ops_at bytes) _ (start bytes fits)
        (ops_reads bytes fits)
        (λ ops t p.
        let counted = and_parts (nat_le 1 (length ops.0)) (nat_le (length ops.0) 1000) p.1.1 in
        let rule : is_none (broken_ops_rule ops.0) ≡ true =
        ap is_none (no_rule_broken ops.0 (leb-true 1 (length ops.0) counted.0) (leb-true (length ops.0) 1000 counted.1)
        p.0.sizes) in (
          t,
          record {
            of_kind = one;
            rules = is_true _ (and_from (is_distinct (map uri_of ops.0)) (list_all (λ o. is_expect (expect_of o)) ops.0)
                p.0.distinct p.0.expects);
            values = (record { rules = is_true _ rule; uris = is_true _ p.0.uris }, is_true _ p.0.values);
          },
        ))

    forgets : kind ≡ 2
        → Reads spell_said (IsSaid kind number) bytes
        (keeping (λ s. nat_lt s number) long_at bytes >>= λ s. Ok (Forget s.0, s.1))
    forgets two =
        step long _ spell_said (IsSaid kind number) bytes [] bytes (keeping (λ s. nat_lt s number) long_at bytes) _
        (start bytes fits) (kept_long (λ s. nat_lt s number) bytes fits)
        (λ s t p. (t, record { of_kind = two; rules = ltb-true s.0 number p.1; values = tt }))

    chosen : (one two : Bool) → (kind == 1) ≡ one → (kind == 2) ≡ two → (one || two) ≡ true
        → Reads spell_said (IsSaid kind number) bytes
        (cond one (ops_at bytes >>= λ ops. Ok (Commit ops.0, ops.1))
        (keeping (λ s. nat_lt s number) long_at bytes >>= λ s. Ok (Forget s.0, s.1)))
    chosen true two o w h = commits (eqb-true kind 1 o)
    chosen false true o w h = forgets (eqb-true kind 2 w)
    chosen false false o w h = absurd cc

abbrev pub spell_entry : ℕ × Entry → List ℕ
spell_entry x = entry x.0 x.1

entry_is : (kind number : ℕ) (e : Entry) → kind ≡ kind_of e
    → (kind ∷ [] ++ long number) ++ spell_said e ≡ entry number e
entry_is kind number (Commit ops) is = ap (λ (k : ℕ). (k ∷ long number) ++ listed op ops) is
entry_is kind number (Forget stamp) is = ap (λ (k : ℕ). (k ∷ long number) ++ long stamp) is

pub entry_reads : (expected : Option ℕ) (bytes : List ℕ) → IsBytes bytes
    → Reads spell_entry (KeepsEntry expected) bytes (entry_at expected bytes)
unfolding entry_at
entry_reads expected bytes fits =
    let two : ℕ → Bool = λ b. (b == 1) || (b == 2) in
    let Keeps : ℕ × Entry → Type 0 = KeepsEntry expected in
    step byte _ spell_entry Keeps bytes [] bytes (keeping two kind_at bytes) _ (start bytes fits)
    (kept_byte two bytes fits)
    (λ k t p. step long _ spell_entry Keeps bytes _ k.1 (keeping (is_expected expected) long_at k.1) _ t
    (kept_long (is_expected expected) k.1 t.rest_fits)
    (λ n u q. step spell_said (IsSaid k.0 n.0) spell_entry Keeps bytes _ n.1 (said_at k.0 n.0 n.1) _ u
    (said_reads k.0 n.0 n.1 u.rest_fits p.1)
    (λ e w r. (
      subst (λ (s : List ℕ). Takes bytes s e.1) (entry_is k.0 n.0 e.0 r.of_kind) w,
      record { fits = q.0; expected = q.1; rules = r.rules; values = r.values },
    ))))
