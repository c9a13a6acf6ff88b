-- Documents, and the rules that each keeps.
use Rattle.std.specs.Prelude.{ℕ, ◌≡◌, ◌⊎◌, ◌+◌, ◌^◌, nat_lt, not, List, length, sum_by, Option, Some, None, is_none, IsTrue, if◌then◌else◌, refl}
use Rattle.std.specs.Coded.{Coded, code_by, coded×, coded_list, coded_ℕ}
use Rattle.doc_model.specs.contracts.node.Node as node
use Rattle.doc_model.specs.declared.node.Node.{Node}
use Rattle.doc_model.specs.declared.refusal.DocRefusal.{DocRefusal}
use Rattle.doc_model.specs.declared.refusal.DocRefusal.TheVariants as rule
use Rattle.doc_model.specs.Tree.{size, depth, has_distinct_names}
use Rattle.doc_model.specs.Uri.{is_uri, is_collections}

-- a document as plain data
pub record PlainDocument : Type 0 where
  pub uri : List ℕ
  pub collections : List (List ℕ)
  pub root : Node

abbrev pub document_of : List ℕ → List (List ℕ) → Node → PlainDocument
document_of uri collections root = record { uri = uri; collections = collections; root = root }

-- it is stored as the tuple of its parts
abbrev pub document_code : Coded PlainDocument
document_code =
    code_by (List ℕ × (List (List ℕ) × Node))
    (coded× (coded_list coded_ℕ) (coded× (coded_list (coded_list coded_ℕ)) node.the_row.coded))
    (λ d. (d.uri, (d.collections, d.root))) (λ p. record { uri = p.0; collections = p.1.0; root = p.1.1 }) (λ _. refl)

-- the nodes of a document, and the bytes of its texts, names, URI and collections
abbrev pub document_size : PlainDocument → ℕ
document_size d = length d.uri + sum_by length d.collections + size d.root

-- the first rule that a document breaks
abbrev pub broken_rule : PlainDocument → Option DocRefusal
broken_rule d =
    if not (is_uri d.uri) then Some rule.Uri
    else if not (is_collections d.collections) then Some rule.Collections
    else if nat_lt 128 (depth d.root) then Some rule.Depth
    else if not (has_distinct_names d.root) then Some rule.Names
    else if nat_lt (2 ^ 24) (document_size d) then Some rule.Size
    else None

-- a refusal names the first rule that is broken, or want of memory
abbrev pub IsRefused : PlainDocument → DocRefusal → Type 0
IsRefused d why = (why ≡ rule.Memory) ⊎ (broken_rule d ≡ Some why)

-- a document keeps every rule
abbrev pub IsDocument : PlainDocument → Type 0
IsDocument d = IsTrue (is_none (broken_rule d))

-- a document, and its size
abbrev pub IsSized : PlainDocument → ℕ → Type 0
IsSized d size = IsDocument d × (size ≡ document_size d)
