-- Range indexes that are read are spelled so and keep their rules.
use Rattle.std.proofs.Common.{◌≡◌, ℕ, ◌^◌, ◌<◌, ◌≤◌, ◌==◌, Bool, true, false, not, nat_le, nat_lt, List, []}
use Rattle.std.proofs.Common.{◌∷◌, ◌++◌, length, Ok, Err, refl, sym, ap, subst, ◌∙◌, arith, cond}
use Rattle.std.specs.List.{list_all}
use Rattle.std.specs.Str.{is_utf8}
use Rattle.std.proofs.lemmas.Bool.{and_from, and_parts, eqb-true, le-leb, lt-ltb, not-true, or_parts}
use Rattle.std.proofs.lemmas.List.Folds.{list_all-append, list_any-append}
use Rattle.doc_model.specs.Queries.{Index, index_eq, is_indexed, is_index_list, kind_eq, no_index_twice}
use Rattle.doc_model.specs.declared.indexes.Kind.{Kind}
use Rattle.doc_model.specs.declared.indexes.Kind.TheVariants as kind
use Rattle.byte_formats.specs.Format.{◌>>=◌}
use Rattle.docs_format.specs.Reading.{count_at, keeping, kind_at, list_at, text_at}
use Rattle.docs_format.specs.Spelling.{count, text}
use Rattle.byte_formats.specs.declared.error.FieldError.TheVariants.{Invalid}
use Rattle.docs_format.proofs.Digits.{IsBytes}
use Rattle.docs_format.proofs.Fields.{Takes, bind_ok, kept_ok, ok_is}
use Rattle.docs_format.proofs.Lists.{list_counts, list_keeps}
use Rattle.docs_format.proofs.Seen.{bytes_eq-sym}
use Rattle.journal_bodies.specs.RootReading.{index_at, indexes_at, type_at}
use Rattle.journal_bodies.specs.Roots.{index, kind_byte, listed}
use Rattle.journal_bodies.proofs.Steps.{Reads, byte, count_reads, keeping_reads, kind_reads, listed_reads, start, step}
use Rattle.journal_bodies.proofs.Steps.{short_text_reads, weaken}

abbrev spell_kind : Kind → List ℕ
spell_kind k = kind_byte k ∷ []

kind_eq_sym : (a b : Kind) → kind_eq a b ≡ kind_eq b a
kind_eq_sym kind.Decimal kind.Decimal = refl
kind_eq_sym kind.Decimal kind.Text = refl
kind_eq_sym kind.Text kind.Decimal = refl
kind_eq_sym kind.Text kind.Text = refl

pub index_eq_sym : (a b : Index) → index_eq a b ≡ index_eq b a
index_eq_sym a b = rw (bytes_eq-sym a.0 b.0, kind_eq_sym a.1 b.1) refl

pub index_push : (list : List Index) (i : Index) → no_index_twice list ≡ true → is_indexed list i ≡ false
    → no_index_twice (list ++ i ∷ []) ≡ true
index_push [] i d f = refl
index_push (j ∷ list) i d f =
    let ds = and_parts (not (is_indexed list j)) (no_index_twice list) d in
    let fs = or_parts (index_eq i j) (is_indexed list i) f in
    let other : index_eq j i ≡ false = index_eq_sym j i ∙ fs.0 in
    let fresh : is_indexed (list ++ i ∷ []) j ≡ false =
    list_any-append (index_eq j) list (i ∷ []) ∙ rw (not-true (is_indexed list j) ds.0, other) refl in
    and_from (not (is_indexed (list ++ i ∷ []) j)) (no_index_twice (list ++ i ∷ [])) (ap not fresh)
    (index_push list i ds.1 fs.1)

-- distinct pairs, whose names are texts
pub record ArePairs (list : List Index) : Type 0 where
  pub once : no_index_twice list ≡ true
  pub utf8 : list_all (λ i. is_utf8 i.0) list ≡ true
  pub short : list_all (λ i. nat_lt (length i.0) (2 ^ 32)) list ≡ true

pub record AreIndexes (list : List Index) : Type 0 where
  pub pairs : is_index_list list ≡ true
  pub utf8 : list_all (λ i. is_utf8 i.0) list ≡ true
  pub short : list_all (λ i. nat_lt (length i.0) (2 ^ 32)) list ≡ true

type_reads : (bytes : List ℕ) → IsBytes bytes → Reads spell_kind (λ k. Unit {0}) bytes (type_at bytes)
unfolding type_at
type_reads bytes fits =
    step byte (λ b. Unit {0}) spell_kind (λ k. Unit {0}) bytes [] bytes (kind_at bytes) _ (start bytes fits)
    (kind_reads bytes fits) (λ b t p. chosen b.0 b.1 (b.0 == 0) (b.0 == 1) refl refl t)
  where
    chosen : (b : ℕ) (rest : List ℕ) (zero one : Bool) → (b == 0) ≡ zero → (b == 1) ≡ one → Takes bytes (b ∷ []) rest
        → Reads spell_kind (λ k. Unit {0}) bytes
        (cond zero (Ok (kind.Decimal, rest)) (cond one (Ok (kind.Text, rest)) (Err (Invalid (length bytes)))))
    chosen b rest true one z o t = (subst (λ (k : ℕ). Takes bytes (k ∷ []) rest) (eqb-true b 0 z) t, tt)
    chosen b rest false true z o t = (subst (λ (k : ℕ). Takes bytes (k ∷ []) rest) (eqb-true b 1 o) t, tt)
    chosen b rest false false z o t = omega arith

abbrev IsName : List ℕ → Type 0
IsName name = (is_utf8 name ≡ true) × (length name < 2 ^ 32)

index_reads : (before : List Index) (bytes : List ℕ) → IsBytes bytes → ArePairs before
    → Reads index (λ i. ArePairs (before ++ i ∷ [])) bytes (index_at before bytes)
unfolding index_at
index_reads before bytes fits are =
    step text IsName index (λ i. ArePairs (before ++ i ∷ [])) bytes [] bytes (text_at bytes) _ (start bytes fits)
    (short_text_reads bytes fits)
    (λ name t p. step spell_kind _ index (λ i. ArePairs (before ++ i ∷ [])) bytes _ name.1
    (keeping (λ k. not (is_indexed before (name.0, k))) type_at name.1) _ t
    (keeping_reads spell_kind (λ k. Unit {0}) (λ k. not (is_indexed before (name.0, k))) type_at name.1
    (type_reads name.1 t.rest_fits))
    (λ k u q.
    let i : Index = (name.0, k.0) in (
      u,
      record {
        once = index_push before i are.once (not-true (is_indexed before i) q.1);
        utf8 = list_all-append (λ (j : Index). is_utf8 j.0) before (i ∷ []) ∙ rw (are.utf8, p.0) refl;
        short =
            list_all-append (λ (j : Index). nat_lt (length j.0) (2 ^ 32)) before (i ∷ [])
            ∙ rw (are.short, lt-ltb (length name.0) (2 ^ 32) p.1) refl;
      },
    )))

pub indexes_reads : (bytes : List ℕ) → IsBytes bytes → Reads (listed index) AreIndexes bytes (indexes_at bytes)
unfolding indexes_at
indexes_reads bytes fits =
    let few : ℕ → Bool = λ n. nat_le n 64 in
    weaken (listed index) (λ list. ArePairs list × ((length list < 2 ^ 32) × (few (length list) ≡ true))) AreIndexes bytes
    (keeping few count_at bytes >>= λ n. list_at index_at [] n.0 n.1)
    (listed_reads index_at index ArePairs index_reads (λ n. (n < 2 ^ 32) × (few n ≡ true)) bytes
    (keeping few count_at bytes) fits
    (keeping_reads count (λ n. n < 2 ^ 32) few count_at bytes (count_reads bytes fits))
    (record { once = refl; utf8 = refl; short = refl }))
    (λ list h. record {
      pairs = and_from (nat_le (length list) 64) (no_index_twice list) h.1.1 h.0.once;
      utf8 = h.0.utf8;
      short = h.0.short;
    })

-- ---- without a word on the bytes

index_kept : (before : List Index) (bytes : List ℕ) (x : Index × List ℕ) → no_index_twice before ≡ true
    → index_at before bytes ≡ Ok x → no_index_twice (before ++ x.0 ∷ []) ≡ true
unfolding index_at
index_kept before bytes x once e =
    let a = bind_ok (text_at bytes) _ x e in
    let fresh : Kind → Bool = λ k. not (is_indexed before (a.0.0, k)) in
    let b = bind_ok (keeping fresh type_at a.0.1) _ x a.2 in
    let k = kept_ok fresh type_at a.0.1 b.0 b.1 in
    let i : Index = (a.0.0, b.0.0) in
    subst (λ (y : Index × List ℕ). no_index_twice (before ++ y.0 ∷ []) ≡ true) {x = (i, b.0.1)} (ok_is (i, b.0.1) x b.2)
    (index_push before i once (not-true (is_indexed before i) k.1))

pub indexes_kept : (n : ℕ) (bytes : List ℕ) (list : List Index) (rest : List ℕ) → n ≤ 64
    → list_at index_at [] n bytes ≡ Ok (list, rest) → is_index_list list ≡ true
indexes_kept n bytes list rest few e =
    let len : length list ≡ n = omega (arith, list_counts index_at n [] bytes (list, rest) e) in
    and_from (nat_le (length list) 64) (no_index_twice list) (le-leb (length list) 64 (omega (arith, len, few)))
    (list_keeps index_at (λ l. no_index_twice l ≡ true) index_kept n [] bytes (list, rest) refl e)

-- one of distinct pairs isn't among those before it
pub twice_at : (front : List Index) (i : Index) (back : List Index) → no_index_twice (front ++ i ∷ back) ≡ true
    → is_indexed front i ≡ false
twice_at [] i back d = refl
twice_at (j ∷ front) i back d =
    let ds = and_parts (not (is_indexed (front ++ i ∷ back) j)) (no_index_twice (front ++ i ∷ back)) d in
    let none : is_indexed (front ++ i ∷ back) j ≡ false = not-true (is_indexed (front ++ i ∷ back) j) ds.0 in
    let parts =
    or_parts (is_indexed front j) (is_indexed (i ∷ back) j) (sym (list_any-append (index_eq j) front (i ∷ back)) ∙ none) in
    let here = or_parts (index_eq j i) (is_indexed back j) parts.1 in
    rw (index_eq_sym i j, here.0, twice_at front i back ds.1) refl
