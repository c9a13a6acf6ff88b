-- Operations that are read keep the rules of a commit.
use Rattle.std.proofs.Common.{◌≡◌, ℕ, ◌+◌, ◌^◌, ◌≤◌, ◌==◌, Bool, true, false, ◌&&◌, ◌||◌, not, cond, nat_le, List, [], ◌∷◌, ◌++◌}
use Rattle.std.proofs.Common.{map, length, sum_by, Option, None, Ok, refl, subst, arith}
use Rattle.std.specs.List.{list_all}
use Rattle.std.proofs.lemmas.Bool.{and_from, le-leb, leb-true}
use Rattle.doc_model.specs.Documents.{PlainDocument, document_size}
use Rattle.doc_model.specs.Operations.{broken_ops_rule, op_size, removes_uri, uri_of}
use Rattle.doc_model.specs.Tree.{is_among}
use Rattle.doc_model.specs.Uri.{is_uri}
use Rattle.doc_model.specs.declared.op.Op.{Op}
use Rattle.doc_model.specs.declared.op.Op.TheVariants.{Put, Remove}
use Rattle.byte_formats.specs.Format.{◌>>=◌}
use Rattle.docs_format.specs.Reading.{count_at, document_at, keeping, kind_at, list_at, text_at, uri_at}
use Rattle.docs_format.proofs.Fields.{bind_ok, kept_ok, ok_is}
use Rattle.docs_format.proofs.Lists.{list_counts, list_keeps}
use Rattle.journal_bodies.specs.EntryReading.{expect_at, fresh_at, op_at, ops_at, put_at}
use Rattle.journal_bodies.proofs.OpLists.{all_push, no_rule_broken, sizes_push}
use Rattle.journal_bodies.proofs.Puts.{small}

abbrev one_or_two : ℕ → Bool
one_or_two byte = (byte == 1) || (byte == 2)

abbrev KeepRules : List Op → Type 0
KeepRules ops = (list_all removes_uri ops ≡ true) × (sum_by op_size ops ≤ 2 ^ 24)

rules_push : (before : List Op) (o : Op) → KeepRules before → removes_uri o ≡ true
    → sum_by op_size before + op_size o ≤ 2 ^ 24 → KeepRules (before ++ o ∷ [])
rules_push before o k u s = (all_push removes_uri before o k.0 u, omega (arith, sizes_push before o, s))

put_fits : (before : List Op) (bytes : List ℕ) (d : PlainDocument × List ℕ) → put_at before bytes ≡ Ok d
    → sum_by op_size before + document_size d.0 ≤ 2 ^ 24
unfolding put_at
put_fits before bytes d e =
    let a = bind_ok (fresh_at (map uri_of before) bytes) _ d e in
    leb-true (sum_by op_size before + document_size d.0) (2 ^ 24) (kept_ok (small before) document_at bytes d a.2).1

fresh_uri : (others : List (List ℕ)) (bytes : List ℕ) (u : List ℕ × List ℕ) → fresh_at others bytes ≡ Ok u
    → is_uri u.0 ≡ true
unfolding fresh_at uri_at
fresh_uri others bytes u e =
    let k = kept_ok (λ uri. not (is_among others uri)) uri_at bytes u e in
    (kept_ok is_uri text_at bytes u k.0).1

op_kept : (before : List Op) (bytes : List ℕ) (x : Op × List ℕ) → KeepRules before → op_at before bytes ≡ Ok x
    → KeepRules (before ++ x.0 ∷ [])
unfolding op_at
op_kept before bytes x k e =
    let a = bind_ok (keeping one_or_two kind_at bytes) _ x e in
    let b = bind_ok (expect_at a.0.1) _ x a.2 in
    go b.0 (a.0.0 == 1) b.2
  where
    go : (given : Option ℕ × List ℕ) (puts : Bool)
        → cond puts (put_at before given.1 >>= λ d. Ok (Put d.0 given.0, d.1))
        (fresh_at (map uri_of before) given.1 >>= λ uri. Ok (Remove uri.0 given.0, uri.1)) ≡ Ok x
        → KeepRules (before ++ x.0 ∷ [])
    go given true f =
        let d = bind_ok (put_at before given.1) _ x f in
        let o : Op = Put d.0.0 given.0 in
        subst (λ (y : Op × List ℕ). KeepRules (before ++ y.0 ∷ [])) {x = (o, d.0.1)} (ok_is (o, d.0.1) x d.2)
        (rules_push before o k refl (put_fits before given.1 d.0 d.1))
    go given false f =
        let u = bind_ok (fresh_at (map uri_of before) given.1) _ x f in
        let o : Op = Remove u.0.0 given.0 in
        subst (λ (y : Op × List ℕ). KeepRules (before ++ y.0 ∷ [])) {x = (o, u.0.1)} (ok_is (o, u.0.1) x u.2)
        (rules_push before o k (fresh_uri (map uri_of before) given.1 u.0 u.1) (omega (arith, k.1)))

module _ (n : ℕ) (bytes : List ℕ) (ops : List Op) (rest : List ℕ) (e : list_at op_at [] n bytes ≡ Ok (ops, rest)) where
  kept_rules : KeepRules ops
  kept_rules = list_keeps op_at KeepRules op_kept n [] bytes (ops, rest) (refl, omega arith) e

  pub uris_kept : list_all removes_uri ops ≡ true
  uris_kept = kept_rules.0

  pub rules_kept : 1 ≤ n → n ≤ 1000 → broken_ops_rule ops ≡ None
  rules_kept some few =
      let len : length ops ≡ n = omega (arith, list_counts op_at n [] bytes (ops, rest) e) in
      no_rule_broken ops (omega (arith, len, some)) (omega (arith, len, few)) kept_rules.1

pub ops_are : (bytes : List ℕ) (n : ℕ) (rest : List ℕ) → count_at bytes ≡ Ok (n, rest) → 1 ≤ n → n ≤ 1000
    → ops_at bytes ≡ list_at op_at [] n rest
unfolding ops_at
ops_are bytes n rest e some few =
    let both : (nat_le 1 n && nat_le n 1000) ≡ true =
    and_from (nat_le 1 n) (nat_le n 1000) (le-leb 1 n some) (le-leb n 1000 few) in
    rw (e, both) refl
