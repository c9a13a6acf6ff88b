-- What is read is spelled so, and keeps the rules of a document.
use Rattle.std.proofs.Common.{◌≡◌, ℕ, ◌^◌, Bool, true, false, cond, not, eqb, nat_lt, List, []}
use Rattle.std.proofs.Common.{◌++◌}
use Rattle.std.proofs.Common.{length, Result, Ok, Err, is_none, refl, ap, subst, ◌∙◌, rules}
use Rattle.std.specs.Prelude.{IfOk, IsTrue}
use Rattle.std.proofs.lemmas.Bool.{eqb-true, not-false, not-true}
use Rattle.std.proofs.lemmas.List.{append-nil, nil_from_length}
use Rattle.doc_model.specs.Documents.{PlainDocument, broken_rule, document_size}
use Rattle.docs_format.specs.declared.fault.DocBytesBad.{DocBytesBad}
use Rattle.byte_formats.specs.declared.error.FieldError.{FieldError}
use Rattle.byte_formats.specs.declared.error.FieldError.TheVariants.{Invalid}
use Rattle.docs_format.specs.Answers.{Decodes}
use Rattle.docs_format.specs.Laws.{WhatIsReadIsSpelled}
use Rattle.docs_format.specs.Spelling as spell
use Rattle.docs_format.specs.Reading.{document_at}
use Rattle.docs_format.specs.Reading.{document_of, sized_document_at}
use Rattle.docs_format.specs.Reading.{placed, whole_of}
use Rattle.docs_format.proofs.Takes.{document_kept, document_takes}
use Rattle.docs_format.proofs.Digits.{IsBytes}
use Rattle.docs_format.proofs.Fields.{bind_ok, guard_ok, kept_ok}
use Rattle.docs_format.proofs.Rules.{only_size}

-- what the bytes of a document are, and which rules it keeps
pub read_is_spelled : WhatIsReadIsSpelled
read_is_spelled bytes rest d fits e =
    let t = document_takes bytes (d, rest) fits e in
    let k = document_kept bytes (d, rest) fits e in
    record {
      spelled = t.0.parts;
      values = t.1;
      uri = k.uri;
      collections = k.collections;
      shallow = k.depth;
      names = k.names;
    }

is_true : (b : Bool) → b ≡ true → IsTrue b
is_true true e = search rules
is_true false e = absurd cc

-- what was read and isn't too large keeps every rule
pub sized_takes : (bytes : List ℕ) (x : PlainDocument × List ℕ) → IsBytes bytes → sized_document_at bytes ≡ Ok x
    → (bytes ≡ spell.document x.0 ++ x.1) × spell.Spells (spell.document x.0) x.0
unfolding sized_document_at
sized_takes bytes x fits e =
    let large : PlainDocument → Bool = λ d. nat_lt (2 ^ 24) (document_size d) in
    let a = kept_ok (λ d. not (large d)) document_at bytes x e in
    let t = document_takes bytes x fits a.0 in
    let small : large x.0 ≡ false = not-true (large x.0) a.1 in
    let whole : is_none (broken_rule x.0) ≡ true = rw (only_size x.0 (document_kept bytes x fits a.0), small) refl in (
      t.0.parts,
      record {
        rules = is_true (is_none (broken_rule x.0)) whole;
        values = is_true (spell.are_values x.0) t.1;
        spelled = refl;
      },
    )

pub whole_takes : (bytes : List ℕ) (d : PlainDocument) → IsBytes bytes → whole_of bytes ≡ Ok d → spell.Spells bytes d
unfolding whole_of
whole_takes bytes d fits e =
    let sized : PlainDocument → Result PlainDocument FieldError =
    λ y. cond (nat_lt (2 ^ 24) (document_size y)) (Err (Invalid (length bytes))) (Ok y) in
    let alone : PlainDocument × List ℕ → Result PlainDocument FieldError =
    λ y. cond (not (eqb (length y.1) 0)) (Err (Invalid (length y.1))) (sized y.0) in
    let a = bind_ok (document_at bytes) alone d e in
    let b = first_ok (not (eqb (length a.0.1) 0)) (Invalid (length a.0.1)) (sized a.0.0) d a.2 in
    let c = guard_ok (nat_lt (2 ^ 24) (document_size a.0.0)) (Invalid (length bytes)) a.0.0 d b.1 in
    let t = document_takes bytes a.0 fits a.1 in
    let k = document_kept bytes a.0 fits a.1 in
    let whole : is_none (broken_rule a.0.0) ≡ true = rw (only_size a.0.0 k, c.0) refl in
    let nothing : a.0.1 ≡ [] =
    nil_from_length a.0.1 (eqb-true (length a.0.1) 0 (not-false (eqb (length a.0.1) 0) b.0)) in
    let spelled : bytes ≡ spell.document a.0.0 =
    t.0.parts ∙ ap (λ (rest : List ℕ). spell.document a.0.0 ++ rest) nothing ∙ append-nil (spell.document a.0.0) in
    subst (λ (y : PlainDocument). spell.Spells bytes y) c.1 record {
      rules = is_true (is_none (broken_rule a.0.0)) whole;
      values = is_true (spell.are_values a.0.0) t.1;
      spelled = spelled;
    }
  where
    first_ok : (b : Bool) (fault : FieldError) (r : Result PlainDocument FieldError) (d : PlainDocument)
        → cond b (Err fault) r ≡ Ok d → (b ≡ false) × (r ≡ Ok d)
    first_ok true fault r d e = absurd cc
    first_ok false fault r d e = (refl, e)

unplaced : (len : ℕ) (r : Result PlainDocument FieldError) (d : PlainDocument) → placed len r ≡ Ok d → r ≡ Ok d
unplaced len (Ok x) d e = let same : x ≡ d = cc in ap Ok same
unplaced len (Err fault) d e = absurd cc

pub is_found : (bytes : List ℕ) (r : Result PlainDocument DocBytesBad) → IsBytes bytes
    → Decodes r (document_of bytes) → IfOk r (λ d. spell.Spells bytes d)
is_found bytes (Ok d) fits given = whole_takes bytes d fits (unplaced (length bytes) (whole_of bytes) d given)
is_found bytes (Err why) fits given = tt
