-- The format of documents is lawful.
use Rattle.std.proofs.Common.{nat_le, [], refl, sym, ap}
use Rattle.byte_formats.specs.Fields.{listed, text}
use Rattle.byte_formats.specs.Format.{keeping}
use Rattle.byte_formats.specs.Lawful.{Lawful}
use Rattle.byte_formats.proofs.Basic.{text_lawful}
use Rattle.byte_formats.proofs.Lists.{listed_lawful}
use Rattle.byte_formats.proofs.Pairs.{both_lawful}
use Rattle.byte_formats.proofs.Pieces.{keeping_lawful, made_lawful}
use Rattle.byte_formats.proofs.Steps.{some_is}
use Rattle.doc_model.specs.Uri.{is_uri}
use Rattle.docs_format.specs.DocumentFormat.{as_last, collection, document, document_of, fields, is_small, parts_of}
use Rattle.docs_format.specs.NodeFormat as spec
use Rattle.docs_format.specs.Reading.{is_next}
use Rattle.docs_format.proofs.NodeLaws.{node_lawful}

pub fields_lawful : Lawful fields
unfolding fields
fields_lawful =
    made_lawful document_of parts_of _
    (both_lawful (keeping is_uri text) _ (keeping_lawful is_uri text text_lawful) (λ _.
    both_lawful (listed (λ n. nat_le n 64) collection as_last []) (λ _. spec.node 128)
    (listed_lawful (λ n. nat_le n 64) collection as_last [] (λ last. keeping_lawful (is_next last) text text_lawful))
    (λ _. node_lawful 128)))
    (λ p h. refl) (λ d p e. sym (ap document_of (some_is (d.uri, (d.collections, d.root)) p e)))

pub document_lawful : Lawful document
document_lawful = keeping_lawful is_small fields fields_lawful
