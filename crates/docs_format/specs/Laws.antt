-- Laws of reading, each a statement that a function of the same subject proves.
use Rattle.std.specs.Prelude.{◌≡◌, ℕ, ◌<◌, ◌≤◌, true, List, ◌++◌, length, get_or, Ok, Err}
use Rattle.doc_model.specs.Documents.{PlainDocument}
use Rattle.docs_format.specs.Reading.{document_at, document_of}
use Rattle.doc_model.specs.Tree.{depth, has_distinct_names}
use Rattle.doc_model.specs.Uri.{is_collections, is_uri}
use Rattle.docs_format.specs.Spelling.{Spells, are_values, document}

-- the bytes of a document that end early are invalid at their length
abbrev pub BeginningsEndEarly : Type 0
BeginningsEndEarly =
    (bytes more : List ℕ) (d : PlainDocument)
    → Spells (bytes ++ more) d → 0 < length more → document_of bytes ≡ Err (length bytes)

-- bytes that go on after a document are invalid at the first byte after it
abbrev pub MoreIsTooMany : Type 0
MoreIsTooMany =
    (bytes more : List ℕ) (d : PlainDocument)
    → Spells bytes d → 0 < length more → document_of (bytes ++ more) ≡ Err (length bytes)

-- an invalid field keeps its place whatever bytes follow
abbrev pub FaultsStay : Type 0
FaultsStay =
    (bytes more : List ℕ) (place : ℕ)
    → document_of bytes ≡ Err place → 0 < place → place < length bytes → document_of (bytes ++ more) ≡ Err place

-- reading a document leaves the bytes after it
abbrev pub DocumentsAreReadAgain : Type 0
DocumentsAreReadAgain =
    (bytes rest : List ℕ) (d : PlainDocument) → Spells bytes d → document_at (bytes ++ rest) ≡ Ok (d, rest)

-- bytes that spell a document, and others after it; the document keeps every rule but perhaps that of its size
pub record IsFront (bytes : List ℕ) (d : PlainDocument) (rest : List ℕ) : Type 0 where
  pub spelled : bytes ≡ document d ++ rest
  pub values : are_values d ≡ true
  pub uri : is_uri d.uri ≡ true
  pub collections : is_collections d.collections ≡ true
  pub shallow : depth d.root ≤ 128
  pub names : has_distinct_names d.root ≡ true

-- bytes from which a document is read are its spelling and the bytes that are left
abbrev pub WhatIsReadIsSpelled : Type 0
WhatIsReadIsSpelled =
    (bytes rest : List ℕ) (d : PlainDocument)
    → ((i : ℕ) → get_or bytes i 0 < 256) → document_at bytes ≡ Ok (d, rest) → IsFront bytes d rest
