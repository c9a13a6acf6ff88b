-- The format of documents.
use Rattle.std.specs.Prelude.{ℕ, ◌^◌, Bool, not, nat_lt, nat_le, List, [], Option, Some}
use Rattle.byte_formats.specs.Fields.{listed, text}
use Rattle.byte_formats.specs.Format.{Format, both, keeping, made}
use Rattle.doc_model.specs.Documents.{PlainDocument, document_size}
use Rattle.doc_model.specs.Uri.{is_uri}
use Rattle.doc_model.specs.declared.node.Node.{Node}
use Rattle.docs_format.specs.NodeFormat.{node}
use Rattle.docs_format.specs.Reading.{is_next}

abbrev pub collection : List ℕ → Format (List ℕ)
collection last = keeping (is_next last) text

abbrev pub as_last : List ℕ → List ℕ → List ℕ
as_last last name = name

abbrev pub document_of : List ℕ × (List (List ℕ) × Node) → PlainDocument
document_of p = record { uri = p.0; collections = p.1.0; root = p.1.1 }

abbrev pub parts_of : PlainDocument → Option (List ℕ × (List (List ℕ) × Node))
parts_of d = Some (d.uri, (d.collections, d.root))

abbrev pub is_small : PlainDocument → Bool
is_small d = not (nat_lt (2 ^ 24) (document_size d))

-- the fields of a document
unfoldable pub fields : Format PlainDocument
fields =
    made document_of parts_of
    (both (keeping is_uri text) (λ _. both (listed (λ n. nat_le n 64) collection as_last []) (λ _. node 128)))

-- a document of at most the greatest size; a larger one is invalid at its first byte
abbrev pub document : Format PlainDocument
document = keeping is_small fields
