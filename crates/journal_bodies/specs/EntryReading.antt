-- Reading an entry from left to right, up to the first invalid field.
use Rattle.std.specs.Prelude.{ℕ, ◌+◌, ◌^◌, Bool, true, ◌&&◌, ◌||◌, not, nat_lt, nat_le, ◌==◌, List, [], map, sum_by}
use Rattle.std.specs.Prelude.{Option, Some, None, Ok, if◌then◌else◌}
use Rattle.doc_model.specs.Documents.{PlainDocument, document_size}
use Rattle.doc_model.specs.Operations.{op_size, uri_of}
use Rattle.doc_model.specs.Tree.{is_among}
use Rattle.doc_model.specs.declared.entry.Entry.{Entry}
use Rattle.doc_model.specs.declared.entry.Entry.TheVariants.{Commit, Forget}
use Rattle.doc_model.specs.declared.op.Op.{Op}
use Rattle.doc_model.specs.declared.op.Op.TheVariants.{Put, Remove}
use Rattle.byte_formats.specs.Format.{◌>>=◌, Read}
use Rattle.docs_format.specs.Reading.{count_at, document_at, keeping, kind_at, list_at, uri_at}
use Rattle.journal_bodies.specs.RootReading.{long_at}

-- what an operation expects
unfoldable pub expect_at : List ℕ → Read (Option ℕ)
expect_at bytes = do
  given ← keeping (λ byte. nat_le byte 1) kind_at bytes
  if given.0 == 0 then Ok (None, given.1)
      else (keeping (λ stamp. nat_lt stamp (2 ^ 48)) long_at given.1 >>= λ stamp. Ok (Some stamp.0, stamp.1))

-- a URI that isn't among these
unfoldable pub fresh_at : List (List ℕ) → List ℕ → Read (List ℕ)
fresh_at others = keeping (λ uri. not (is_among others uri)) uri_at

-- a document after some operations: its URI is none of theirs, and the sum of its size and theirs isn't too great
unfoldable pub put_at : List Op → List ℕ → Read PlainDocument
put_at before bytes = do
  uri ← fresh_at (map uri_of before) bytes
  keeping (λ d. nat_le (sum_by op_size before + document_size d) (2 ^ 24)) document_at bytes

-- an operation after others
unfoldable pub op_at : List Op → List ℕ → Read Op
op_at before bytes = do
  kind ← keeping (λ byte. (byte == 1) || (byte == 2)) kind_at bytes
  expect ← expect_at kind.1
  if kind.0 == 1 then (put_at before expect.1 >>= λ d. Ok (Put d.0 expect.0, d.1))
      else (fresh_at (map uri_of before) expect.1 >>= λ uri. Ok (Remove uri.0 expect.0, uri.1))

unfoldable pub ops_at : List ℕ → Read (List Op)
ops_at bytes = do
  n ← keeping (λ n. nat_le 1 n && nat_le n 1000) count_at bytes
  list_at op_at [] n.0 n.1

-- what follows the number of a commit or a forget
unfoldable pub said_at : ℕ → ℕ → List ℕ → Read Entry
said_at kind number bytes =
    if kind == 1 then (ops_at bytes >>= λ ops. Ok (Commit ops.0, ops.1))
    else (keeping (λ stamp. nat_lt stamp number) long_at bytes >>= λ stamp. Ok (Forget stamp.0, stamp.1))

-- an entry may have this number: any, or the one that is expected
abbrev pub is_expected : Option ℕ → ℕ → Bool
is_expected None number = true
is_expected (Some expected) number = number == expected

-- an entry, of which a number may be expected; another number is invalid
unfoldable pub entry_at : Option ℕ → List ℕ → Read (ℕ × Entry)
entry_at expected bytes = do
  kind ← keeping (λ byte. (byte == 1) || (byte == 2)) kind_at bytes
  number ← keeping (is_expected expected) long_at kind.1
  said ← said_at kind.0 number.0 number.1
  Ok ((number.0, said.0), said.1)
