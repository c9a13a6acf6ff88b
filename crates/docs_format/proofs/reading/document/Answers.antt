use Rattle.std.proofs.Common.{ℕ, List, ap, not, rules}
use Rattle.doc_model.specs.Documents as model
use Rattle.doc_model.specs.Documents.{PlainDocument, document_size}
use Rattle.std.proofs.Common.{◌^◌, nat_lt}
use Rattle.docs_format.specs.Reading.{document_at, sized_document_at}
use Rattle.docs_format.proofs.Keeping.{unkept}
use Rattle.docs_format.proofs.Rules.{refused_large}
use Rattle.docs_format.proofs.Takes.{document_kept}
use Rattle.docs_format.proofs.reading.document.Goals as goal

pub returns-in-Err : goal.returns-in-Err
unfolding sized_document_at
returns-in-Err c =
    let d : PlainDocument =
    model.document_of c.in_ok-parts.parts.uri c.in_ok-parts.parts.collections c.in_ok-parts.parts.root in
    let x : PlainDocument × List ℕ = (d, c.parts_at.new.reader) in
    let large =
    refused_large d c.in-Err.field-0
    (document_kept c.args.reader.now x c.are_bytes.ensures c.in_ok-parts.ensures) c.in-Err.ensures.refused
    (search rules) in
    rw c.left-left.ensures
    (unkept (λ y. not (nat_lt (2 ^ 24) (document_size y))) document_at c.args.reader.now x c.in_ok-parts.ensures
    (ap not large))
