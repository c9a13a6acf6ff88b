-- The operations of a commit, one behind the other.
use Rattle.std.proofs.Common.{◌≡◌, ℕ, ◌+◌, ◌^◌, ◌≤◌, ◌==◌, Bool, true, false, ◌||◌, not, cond, nat_lt}
use Rattle.std.proofs.Common.{List, [], ◌∷◌, ◌++◌, map, length, sum_by, Option, Some, None, is_none}
use Rattle.std.proofs.Common.{refl, sym, ap, ◌∙◌, arith, rules}
use Rattle.std.specs.Prelude.{IsTrue}
use Rattle.std.specs.List.{list_all}
use Rattle.std.specs.Str.{bytes_eq}
use Rattle.std.proofs.lemmas.Bool.{and_from, and_parts, eqb-false, le-ltb, ltb-false, ne_eqb, not-true, or_parts}
use Rattle.std.proofs.lemmas.List.{map_push, map-append}
use Rattle.std.proofs.lemmas.List.Folds.{list_all-append, list_any-append}
use Rattle.std.proofs.lemmas.List.Sums.{sum_by-append, sum_by-cons}
use Rattle.doc_model.specs.Operations.{broken_ops_rule, expect_of, op_size, removes_uri, uri_of}
use Rattle.doc_model.specs.Tree.{is_among, is_distinct}
use Rattle.doc_model.specs.declared.op.Op.{Op}
use Rattle.doc_model.specs.declared.refusal.OpsRefusal.{OpsRefusal}
use Rattle.doc_model.specs.declared.refusal.OpsRefusal.TheVariants as rule
use Rattle.docs_format.proofs.Seen.{bytes_eq-sym}
use Rattle.journal_bodies.specs.Entries.{has_values, is_expect}

names_push : (names : List (List ℕ)) (name : List ℕ) → is_distinct names ≡ true → is_among names name ≡ false
    → is_distinct (names ++ name ∷ []) ≡ true
names_push [] name d f = refl
names_push (m ∷ names) name d f =
    let ds = and_parts (not (is_among names m)) (is_distinct names) d in
    let fs = or_parts (bytes_eq name m) (is_among names name) f in
    let other : bytes_eq m name ≡ false = bytes_eq-sym m name ∙ fs.0 in
    let fresh : is_among (names ++ name ∷ []) m ≡ false =
    list_any-append (bytes_eq m) names (name ∷ []) ∙ rw (not-true (is_among names m) ds.0, other) refl in
    and_from (not (is_among (names ++ name ∷ []) m)) (is_distinct (names ++ name ∷ [])) (ap not fresh)
    (names_push names name ds.1 fs.1)

names_at : (front : List (List ℕ)) (name : List ℕ) (back : List (List ℕ))
    → is_distinct (front ++ name ∷ back) ≡ true → is_among front name ≡ false
names_at [] name back d = refl
names_at (m ∷ front) name back d =
    let ds = and_parts (not (is_among (front ++ name ∷ back) m)) (is_distinct (front ++ name ∷ back)) d in
    let none : is_among (front ++ name ∷ back) m ≡ false = not-true (is_among (front ++ name ∷ back) m) ds.0 in
    let parts =
    or_parts (is_among front m) (is_among (name ∷ back) m)
    (sym (list_any-append (bytes_eq m) front (name ∷ back)) ∙ none) in
    let here = or_parts (bytes_eq m name) (is_among back m) parts.1 in
    rw (bytes_eq-sym name m, here.0, names_at front name back ds.1) refl

-- an operation that may follow others
pub record MayFollow (before : List Op) (o : Op) : Type 0 where
  pub values : has_values o ≡ true
  pub expect : is_expect (expect_of o) ≡ true
  pub uri : removes_uri o ≡ true
  pub fresh : is_among (map uri_of before) (uri_of o) ≡ false
  pub sizes : sum_by op_size before + op_size o ≤ 2 ^ 24

-- operations that may follow each other
pub record AreRead (ops : List Op) : Type 0 where
  pub values : list_all has_values ops ≡ true
  pub expects : list_all (λ o. is_expect (expect_of o)) ops ≡ true
  pub uris : list_all removes_uri ops ≡ true
  pub distinct : is_distinct (map uri_of ops) ≡ true
  pub sizes : sum_by op_size ops ≤ 2 ^ 24

pub none_read : AreRead []
none_read = record { values = refl; expects = refl; uris = refl; distinct = refl; sizes = omega arith }

pub all_push : (p : Op → Bool) (before : List Op) (o : Op) → list_all p before ≡ true → p o ≡ true
    → list_all p (before ++ o ∷ []) ≡ true
all_push p before o a h = list_all-append p before (o ∷ []) ∙ rw (a, h) refl

pub sizes_push : (before : List Op) (o : Op) → sum_by op_size (before ++ o ∷ []) ≡ sum_by op_size before + op_size o
sizes_push before o = omega (arith, sum_by-append op_size before (o ∷ []))

pub read_push : (before : List Op) (o : Op) → AreRead before → MayFollow before o → AreRead (before ++ o ∷ [])
read_push before o a m = record {
  values = all_push has_values before o a.values m.values;
  expects = all_push (λ x. is_expect (expect_of x)) before o a.expects m.expect;
  uris = all_push removes_uri before o a.uris m.uri;
  distinct =
      ap is_distinct (map_push uri_of before o) ∙ names_push (map uri_of before) (uri_of o) a.distinct m.fresh;
  sizes = omega (arith, sizes_push before o, m.sizes);
}

-- the first of some operations behind others
pub first_follows : (before : List Op) (o : Op) (list : List Op) → AreRead (before ++ o ∷ list) → MayFollow before o
first_follows before o list a =
    let at = λ (p : Op → Bool) (h : list_all p (before ++ o ∷ list) ≡ true).
    (and_parts (p o) (list_all p list)
    (and_parts (list_all p before) (list_all p (o ∷ list)) (sym (list_all-append p before (o ∷ list)) ∙ h)).1).0 in
    record {
      values = at has_values a.values;
      expect = at (λ x. is_expect (expect_of x)) a.expects;
      uri = at removes_uri a.uris;
      fresh =
          names_at (map uri_of before) (uri_of o) (map uri_of list)
          (sym (ap is_distinct (map-append uri_of before (o ∷ list))) ∙ a.distinct);
      sizes = omega (arith, sum_by-append op_size before (o ∷ list), sum_by-cons op_size o list, a.sizes);
    }

-- ---- the rules of a commit

pub no_rule_broken : (ops : List Op) → 1 ≤ length ops → length ops ≤ 1000 → sum_by op_size ops ≤ 2 ^ 24
    → broken_ops_rule ops ≡ None
no_rule_broken ops some few small =
    let none : (length ops == 0) ≡ false = ne_eqb (length ops) 0 (λ e. absurd (omega (arith, some, e))) in
    let many : nat_lt 1000 (length ops) ≡ false = le-ltb 1000 (length ops) few in
    let large : nat_lt (2 ^ 24) (sum_by op_size ops) ≡ false = le-ltb (2 ^ 24) (sum_by op_size ops) small in
    rw (none, many, large) refl

pub record IsCommit (ops : List Op) : Type 0 where
  pub some : 1 ≤ length ops
  pub few : length ops ≤ 1000
  pub small : sum_by op_size ops ≤ 2 ^ 24

none_then : (b : Bool) (r : OpsRefusal) (o : Option OpsRefusal)
    → IsTrue (is_none (cond b (Some r) o)) → (b ≡ false) × IsTrue (is_none o)
none_then true r o h = absurd (search rules)
none_then false r o h = (refl, h)

pub is_commit : (ops : List Op) → IsTrue (is_none (broken_ops_rule ops)) → IsCommit ops
is_commit ops h =
    let counted = none_then ((length ops == 0) || nat_lt 1000 (length ops)) (rule.Count (length ops)) _ h in
    let sized = none_then (nat_lt (2 ^ 24) (sum_by op_size ops)) rule.Size None counted.1 in
    let parts = or_parts (length ops == 0) (nat_lt 1000 (length ops)) counted.0 in
    let differs : length ops ≡ 0 → ⊥ = eqb-false (length ops) 0 parts.0 in
    record {
      some = omega (arith, differs);
      few = ltb-false 1000 (length ops) parts.1;
      small = ltb-false (2 ^ 24) (sum_by op_size ops) sized.0;
    }
