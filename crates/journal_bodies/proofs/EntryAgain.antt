-- An entry that was written is read again.
use Rattle.std.proofs.Common.{◌≡◌, ℕ, ◌+◌, ◌^◌, ◌<◌, ◌≤◌, true, false, ◌&&◌, not, nat_le, nat_lt, List, []}
use Rattle.std.proofs.Common.{◌∷◌, ◌++◌, map, length, sum_by, Option, Some, None, is_none, Ok}
use Rattle.std.proofs.Common.{refl, sym, ap, subst, ◌∙◌, append_assoc, arith}
use Rattle.std.specs.List.{flat_map, list_all}
use Rattle.std.specs.Str.{is_utf8}
use Rattle.std.proofs.lemmas.Bool.{and_parts, le-leb, leb-true, lt-ltb, ltb-true}
use Rattle.doc_model.specs.Documents.{PlainDocument, broken_rule, document_size}
use Rattle.doc_model.specs.Operations.{expect_of, op_size, uri_of}
use Rattle.doc_model.specs.Tree.{is_among, is_distinct}
use Rattle.doc_model.specs.Uri.{is_name, is_uri, is_uri_byte}
use Rattle.doc_model.specs.declared.entry.Entry.{Entry}
use Rattle.doc_model.specs.declared.entry.Entry.TheVariants.{Commit, Forget}
use Rattle.doc_model.specs.declared.op.Op.{Op}
use Rattle.doc_model.specs.declared.op.Op.TheVariants.{Put, Remove}
use Rattle.docs_format.specs.Reading.{document_at, kind_at, uri_at}
use Rattle.docs_format.specs.Spelling as spell
use Rattle.docs_format.specs.Spelling.{Spells, are_values, count, document, has_values as has_tree_values, text, texts}
use Rattle.docs_format.proofs.Fields.{count_again, uri_again}
use Rattle.docs_format.proofs.Keeping.{kept}
use Rattle.docs_format.proofs.Lists.{Follows, list_again}
use Rattle.docs_format.proofs.Rules as docs
use Rattle.docs_format.proofs.Takes as taken
use Rattle.journal_bodies.specs.Entries.{HasValues, IsEntry, SpellsEntry, entry, expect, is_expect, op}
use Rattle.journal_bodies.specs.EntryReading.{entry_at, expect_at, fresh_at, is_expected, op_at, ops_at, put_at, said_at}
use Rattle.journal_bodies.specs.Roots.{listed, long}
use Rattle.journal_bodies.proofs.OpLists.{AreRead, MayFollow, first_follows, is_commit}
use Rattle.journal_bodies.proofs.OpsKept.{ops_are}
use Rattle.journal_bodies.proofs.Puts.{small}
use Rattle.journal_bodies.proofs.RootAgain.{kept_again}
use Rattle.journal_bodies.proofs.Truths.{from_true, is_true}

expect_again : (e : Option ℕ) (rest : List ℕ) → is_expect e ≡ true → expect_at (expect e ++ rest) ≡ Ok (e, rest)
unfolding expect_at kind_at
expect_again None rest h = refl
expect_again (Some stamp) rest h =
    let lt : stamp < 2 ^ 48 = ltb-true stamp (2 ^ 48) h in
    rw (kept_again (λ s. nat_lt s (2 ^ 48)) stamp rest (omega (arith, lt)) h) refl

short_uri : (uri : List ℕ) → is_uri uri ≡ true → length uri < 2 ^ 32
short_uri uri h =
    let name = (and_parts (is_name uri) (list_all is_uri_byte uri) h).0 in
    let short : length uri ≤ 1024 =
    leb-true (length uri) 1024 (and_parts (nat_le 1 (length uri)) (nat_le (length uri) 1024) name).1 in
    omega (arith, short)

fresh_again : (others : List (List ℕ)) (uri rest : List ℕ) → is_utf8 uri ≡ true → is_uri uri ≡ true
    → is_among others uri ≡ false → fresh_at others (text uri ++ rest) ≡ Ok (uri, rest)
unfolding fresh_at
fresh_again others uri rest utf8 is fresh =
    kept (λ u. not (is_among others u)) uri_at (text uri ++ rest) (uri, rest)
    (uri_again uri rest (short_uri uri is) utf8 is) (ap not fresh)

put_again : (before : List Op) (d : PlainDocument) (e : Option ℕ) (rest : List ℕ) → MayFollow before (Put d e)
    → put_at before (document d ++ rest) ≡ Ok (d, rest)
unfolding put_at
put_again before d e rest m =
    let both = and_parts (is_none (broken_rule d)) (are_values d) m.values in
    let keeps = (docs.keeps d (is_true _ both.0)).0 in
    let vs = and_parts (is_utf8 d.uri && list_all is_utf8 d.collections) (has_tree_values d.root) both.1 in
    let us = and_parts (is_utf8 d.uri) (list_all is_utf8 d.collections) vs.0 in
    let after_uri : List ℕ = texts d.collections ++ (spell.node d.root ++ rest) in
    let regrouped : document d ++ rest ≡ text d.uri ++ after_uri =
    append_assoc (text d.uri ++ texts d.collections) (spell.node d.root) rest
    ∙ append_assoc (text d.uri) (texts d.collections) (spell.node d.root ++ rest) in
    let fresh : fresh_at (map uri_of before) (document d ++ rest) ≡ Ok (d.uri, after_uri) =
    ap (fresh_at (map uri_of before)) regrouped
    ∙ fresh_again (map uri_of before) d.uri after_uri us.0 keeps.uri m.fresh in
    let read : document_at (document d ++ rest) ≡ Ok (d, rest) =
    taken.spelled_again (document d) rest d
    (record { rules = is_true _ both.0; values = is_true _ both.1; spelled = refl }) in
    let fits : small before d ≡ true = le-leb (sum_by op_size before + document_size d) (2 ^ 24) m.sizes in
    rw fresh (kept (small before) document_at (document d ++ rest) (d, rest) read fits)

op_again : (before : List Op) (o : Op) (rest : List ℕ) → MayFollow before o → op_at before (op o ++ rest) ≡ Ok (o, rest)
unfolding op_at kind_at
op_again before (Put d e) rest m =
    let regrouped : op (Put d e) ++ rest ≡ 1 ∷ (expect e ++ (document d ++ rest)) =
    ap (λ (s : List ℕ). 1 ∷ s) (append_assoc (expect e) (document d) rest) in
    ap (op_at before) regrouped
    ∙ rw (expect_again e (document d ++ rest) m.expect, put_again before d e rest m) refl
op_again before (Remove uri e) rest m =
    let regrouped : op (Remove uri e) ++ rest ≡ 2 ∷ (expect e ++ (text uri ++ rest)) =
    ap (λ (s : List ℕ). 2 ∷ s) (append_assoc (expect e) (text uri) rest) in
    ap (op_at before) regrouped
    ∙ rw (
      expect_again e (text uri ++ rest) m.expect,
      fresh_again (map uri_of before) uri rest m.values m.uri m.fresh,
    ) refl

ops_follow : (list before : List Op) → AreRead (before ++ list) → Follows MayFollow before list
ops_follow [] before a = tt
ops_follow (o ∷ list) before a = (
  first_follows before o list a,
  ops_follow list (before ++ o ∷ []) (subst AreRead (sym (append_assoc before (o ∷ []) list)) a),
)

are_read : (number : ℕ) (ops : List Op) → IsEntry number (Commit ops) → HasValues (Commit ops) → AreRead ops
are_read number ops rules values =
    let both =
    and_parts (is_distinct (map uri_of ops)) (list_all (λ o. is_expect (expect_of o)) ops) (from_true _ rules) in
    record {
      values = from_true _ values.1;
      expects = both.1;
      uris = from_true _ values.0.uris;
      distinct = both.0;
      sizes = (is_commit ops values.0.rules).small;
    }

ops_again : (number : ℕ) (ops : List Op) (rest : List ℕ) → IsEntry number (Commit ops) → HasValues (Commit ops)
    → ops_at (listed op ops ++ rest) ≡ Ok (ops, rest)
ops_again number ops rest rules values =
    let commit = is_commit ops values.0.rules in
    let more : List ℕ = flat_map op ops ++ rest in
    let regrouped : listed op ops ++ rest ≡ count (length ops) ++ more =
    append_assoc (count (length ops)) (flat_map op ops) rest in
    ap ops_at regrouped
    ∙ ops_are (count (length ops) ++ more) (length ops) more
    (count_again (length ops) more (omega (arith, commit.few))) commit.some commit.few
    ∙ list_again op_at op MayFollow op_again ops [] rest (ops_follow ops [] (are_read number ops rules values))

pub entry_again : (expected : Option ℕ) (number : ℕ) (e : Entry) (rest : List ℕ) → number < 2 ^ 64 → IsEntry number e
    → HasValues e → is_expected expected number ≡ true
    → entry_at expected (entry number e ++ rest) ≡ Ok ((number, e), rest)
unfolding entry_at said_at kind_at
entry_again expected number (Commit ops) rest fits rules values is =
    let more : List ℕ = listed op ops ++ rest in
    let regrouped : entry number (Commit ops) ++ rest ≡ 1 ∷ (long number ++ more) =
    ap (λ (s : List ℕ). 1 ∷ s) (append_assoc (long number) (listed op ops) rest) in
    ap (entry_at expected) regrouped
    ∙ rw (kept_again (is_expected expected) number more fits is, ops_again number ops rest rules values) refl
entry_again expected number (Forget stamp) rest fits rules values is =
    let more : List ℕ = long stamp ++ rest in
    let regrouped : entry number (Forget stamp) ++ rest ≡ 2 ∷ (long number ++ more) =
    ap (λ (s : List ℕ). 2 ∷ s) (append_assoc (long number) (long stamp) rest) in
    ap (entry_at expected) regrouped
    ∙ rw (
      kept_again (is_expected expected) number more fits is,
      kept_again (λ s. nat_lt s number) stamp rest (omega (arith, rules, fits)) (lt-ltb stamp number rules),
    ) refl

-- the bytes of an entry, whatever is behind them
pub spelled_again : (expected : Option ℕ) (bytes more : List ℕ) (number : ℕ) (e : Entry) → SpellsEntry bytes number e
    → is_expected expected number ≡ true → entry_at expected (bytes ++ more) ≡ Ok ((number, e), more)
spelled_again expected bytes more number e s is =
    ap (λ (t : List ℕ). entry_at expected (t ++ more)) s.spelled
    ∙ entry_again expected number e more s.fits s.rules s.values is
