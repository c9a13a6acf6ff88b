-- A document that was written is read again.
use Rattle.std.proofs.Common.{◌≡◌, ℕ, ◌^◌, false, not, nat_lt, List, [], ◌++◌, Result, Ok, sym, ap, subst, ◌∙◌}
use Rattle.std.proofs.Common.{refl}
use Rattle.std.proofs.lemmas.Bool.{le-ltb}
use Rattle.std.proofs.lemmas.List.{append-nil}
use Rattle.doc_model.specs.Documents.{PlainDocument, document_size}
use Rattle.docs_format.specs.Answers.{Decodes}
use Rattle.docs_format.specs.Spelling as spell
use Rattle.docs_format.specs.Reading.{document_at, document_of, sized_document_at, whole_of}
use Rattle.docs_format.specs.declared.fault.DocBytesBad.{DocBytesBad}
use Rattle.docs_format.proofs.Keeping.{kept}
use Rattle.docs_format.proofs.Rules.{keeps}
use Rattle.docs_format.proofs.Takes.{spelled_again}

pub sized_again : (bytes more : List ℕ) (d : PlainDocument) → spell.Spells bytes d
    → sized_document_at (bytes ++ more) ≡ Ok (d, more)
unfolding sized_document_at
sized_again bytes more d s =
    let small : nat_lt (2 ^ 24) (document_size d) ≡ false = le-ltb (2 ^ 24) (document_size d) (keeps d s.rules).1 in
    kept (λ y. not (nat_lt (2 ^ 24) (document_size y))) document_at (bytes ++ more) (d, more)
    (spelled_again bytes more d s) (ap not small)

pub whole_again : (bytes : List ℕ) (d : PlainDocument) → spell.Spells bytes d → document_of bytes ≡ Ok d
unfolding whole_of
whole_again bytes d s =
    let read : document_at bytes ≡ Ok (d, []) = ap document_at (sym (append-nil bytes)) ∙ spelled_again bytes [] d s in
    let small : nat_lt (2 ^ 24) (document_size d) ≡ false = le-ltb (2 ^ 24) (document_size d) (keeps d s.rules).1 in
    rw (read, small) refl

pub is_only : (bytes : List ℕ) (r : Result PlainDocument DocBytesBad) (d : PlainDocument) → spell.Spells bytes d
    → Decodes r (document_of bytes) → Decodes r (Ok d)
is_only bytes r d s given =
    subst (λ (read : Result PlainDocument ℕ). Decodes r read) (whole_again bytes d s) given
