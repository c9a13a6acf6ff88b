-- The bytes of an entry of a journal.
use Rattle.std.specs.Prelude.{◌≡◌, ◌<◌, ℕ, ◌^◌, Bool, true, ◌&&◌, nat_lt, List, [], ◌∷◌, ◌++◌, map, Option, Some, None, is_none, IsTrue}
use Rattle.std.specs.List.{list_all}
use Rattle.std.specs.Str.{is_utf8}
use Rattle.doc_model.specs.Documents.{broken_rule}
use Rattle.doc_model.specs.Operations.{AreOps, expect_of, uri_of}
use Rattle.doc_model.specs.Tree.{is_distinct}
use Rattle.doc_model.specs.declared.entry.Entry.{Entry}
use Rattle.doc_model.specs.declared.entry.Entry.TheVariants.{Commit, Forget}
use Rattle.doc_model.specs.declared.op.Op.{Op}
use Rattle.doc_model.specs.declared.op.Op.TheVariants.{Put, Remove}
use Rattle.docs_format.specs.Spelling.{are_values, document, text}
use Rattle.journal_bodies.specs.Roots.{listed, long}

-- what an operation expects: a byte that says whether it expects a timestamp, and the timestamp
abbrev pub expect : Option ℕ → List ℕ
expect None = 0 ∷ []
expect (Some stamp) = 1 ∷ long stamp

-- an operation: a byte for its kind, what it expects, and what it puts or removes
abbrev pub op : Op → List ℕ
op (Put d e) = 1 ∷ expect e ++ document d
op (Remove uri e) = 2 ∷ expect e ++ text uri

-- an entry: a byte for its kind, its number, and its operations or the timestamp to which it forgets
abbrev pub entry : ℕ → Entry → List ℕ
entry number (Commit ops) = 1 ∷ long number ++ listed op ops
entry number (Forget stamp) = 2 ∷ long number ++ long stamp

-- nothing is expected, or a timestamp below 2^48
abbrev pub is_expect : Option ℕ → Bool
is_expect None = true
is_expect (Some stamp) = nat_lt stamp (2 ^ 48)

-- a commit names no URI twice and expects timestamps below 2^48; a forget is to a timestamp below its own
abbrev pub IsEntry : ℕ → Entry → Type 0
IsEntry number (Commit ops) = IsTrue (is_distinct (map uri_of ops) && list_all (λ o. is_expect (expect_of o)) ops)
IsEntry number (Forget stamp) = stamp < number

-- the texts of an operation are UTF-8 and its numbers decimals, and a document keeps every rule
abbrev pub has_values : Op → Bool
has_values (Put d e) = is_none (broken_rule d) && are_values d
has_values (Remove uri e) = is_utf8 uri

-- the operations of a commit keep their rules, and their texts and numbers are in range
abbrev pub HasValues : Entry → Type 0
HasValues (Commit ops) = AreOps ops × IsTrue (list_all has_values ops)
HasValues (Forget stamp) = Unit {0}

-- the bytes are those of an entry that keeps every rule, under its number
pub record SpellsEntry (bytes : List ℕ) (number : ℕ) (e : Entry) : Type 0 where
  pub fits : number < 2 ^ 64
  pub rules : IsEntry number e
  pub values : HasValues e
  pub spelled : bytes ≡ entry number e
