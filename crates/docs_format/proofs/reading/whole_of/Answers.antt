use Rattle.std.proofs.Common.{◌≡◌, ℕ, List, length, Ok, refl, rules, arith}
use Rattle.doc_model.specs.Documents as model
use Rattle.doc_model.specs.Documents.{PlainDocument}
use Rattle.docs_format.specs.Reading.{document_at, whole_of}
use Rattle.docs_format.proofs.Rules.{refused_large}
use Rattle.docs_format.proofs.Takes.{document_kept}
use Rattle.docs_format.proofs.reading.whole_of.Goals as goal

pub returns-in-Err : goal.returns-in-Err
unfolding whole_of
returns-in-Err c =
    let d : PlainDocument =
    model.document_of c.in_ok-parts.parts.uri c.in_ok-parts.parts.collections c.in_ok-parts.parts.root in
    let x : PlainDocument × List ℕ = (d, c.parts_at.new.reader) in
    let read : document_at c.args.bytes.now ≡ Ok x = rw (← c.new-reader.ensures) c.in_ok-parts.ensures in
    let none : length c.parts_at.new.reader ≡ 0 = omega (arith, c.if-left-gt0.false, c.left.ensures) in
    let large =
    refused_large d c.in-Err.field-0
    (document_kept c.args.bytes.now x (λ i. omega (arith, c.type_inv.bytes i)) read) c.in-Err.ensures.refused
    (search rules) in
    rw (read, none, large) refl
