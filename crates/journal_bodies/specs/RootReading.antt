-- Reading a root from left to right, up to the first invalid field.
use Rattle.std.specs.Prelude.{ℕ, ◌&&◌, not, nat_lt, nat_le, ◌==◌, List, [], ◌∷◌, ◌++◌, length, Ok, Err}
use Rattle.std.specs.Prelude.{if◌then◌else◌}
use Rattle.std.specs.List.{flat_map}
use Rattle.doc_model.specs.Queries.{Index, is_indexed}
use Rattle.doc_model.specs.declared.indexes.Kind.{Kind}
use Rattle.doc_model.specs.declared.indexes.Kind.TheVariants as kind
use Rattle.doc_model.specs.declared.settings.Settings.{Settings}
use Rattle.byte_formats.specs.Format.{◌>>=◌, Read}
use Rattle.docs_format.specs.Reading.{count_at, keeping, kind_at, list_at, text_at, wide_at}
use Rattle.byte_formats.specs.declared.error.FieldError.TheVariants.{Invalid}
use Rattle.journal_bodies.specs.Roots.{PlainRoot, files_of, has}
use Rattle.journal_bodies.specs.declared.root.PartFiles.{PartFiles}
use Rattle.journal_bodies.specs.declared.root_reading.RootNumbers.{RootNumbers}

-- a number in eight bytes
unfoldable pub long_at : List ℕ → Read ℕ
long_at = wide_at 8

-- the numbers that a root begins with
unfoldable pub numbers_at : List ℕ → Read RootNumbers
numbers_at bytes = do
  number ← keeping (λ n. nat_le 1 n) long_at bytes
  checkpoint ← long_at number.1
  merge ← long_at checkpoint.1
  horizon ← keeping (λ n. nat_le n checkpoint.0) long_at merge.1
  next ← keeping (λ n. nat_le 1 n) long_at horizon.1
  Ok (
    record {
      number = number.0;
      checkpoint = checkpoint.0;
      merge = merge.0;
      horizon = horizon.0;
      next = next.0;
    },
    next.1,
  )

-- the kind of an index
unfoldable pub type_at : List ℕ → Read Kind
type_at bytes = do
  byte ← kind_at bytes
  if byte.0 == 0 then Ok (kind.Decimal, byte.1)
      else if byte.0 == 1 then Ok (kind.Text, byte.1)
      else Err (Invalid (length bytes))

-- a range index after others; one that is among them is invalid at its kind
unfoldable pub index_at : List Index → List ℕ → Read Index
index_at before bytes = do
  name ← text_at bytes
  type ← keeping (λ type. not (is_indexed before (name.0, type))) type_at name.1
  Ok ((name.0, type.0), type.1)

unfoldable pub indexes_at : List ℕ → Read (List Index)
indexes_at bytes = do
  n ← keeping (λ n. nat_le n 64) count_at bytes
  list_at index_at [] n.0 n.1

unfoldable pub settings_at : List ℕ → Read Settings
settings_at bytes = do
  save ← count_at bytes
  merge ← count_at save.1
  indexes ← indexes_at merge.1
  Ok (record { indexes = indexes.0; save_at = save.0; merge_at = merge.0 }, indexes.1)

-- the number of a file, which is below the next number and not among those before it
unfoldable pub file_at : ℕ → List ℕ → List ℕ → Read ℕ
file_at next before = keeping (λ n. nat_lt n next && not (has before n)) long_at

-- a part after others
unfoldable pub part_at : ℕ → List PartFiles → List ℕ → Read PartFiles
part_at next before bytes = do
  index ← file_at next (flat_map files_of before) bytes
  documents ← file_at next (flat_map files_of before ++ index.0 ∷ []) index.1
  stamps ← file_at next ((flat_map files_of before ++ index.0 ∷ []) ++ documents.0 ∷ []) documents.1
  fragments ← count_at stamps.1
  Ok (record { index = index.0; documents = documents.0; stamps = stamps.0; fragments = fragments.0 }, fragments.1)

unfoldable pub parts_at : ℕ → List ℕ → Read (List PartFiles)
parts_at next bytes = do
  n ← count_at bytes
  list_at (part_at next) [] n.0 n.1

-- the files to be removed, which are none of the others
unfoldable pub removed_at : ℕ → List ℕ → List ℕ → Read (List ℕ)
removed_at next others bytes = do
  n ← count_at bytes
  list_at (λ before. file_at next (others ++ before)) [] n.0 n.1

unfoldable pub root_at : List ℕ → Read PlainRoot
root_at bytes = do
  kind ← keeping (λ byte. byte == 3) kind_at bytes
  numbers ← numbers_at kind.1
  settings ← settings_at numbers.1
  parts ← parts_at numbers.0.next settings.1
  removed ← removed_at numbers.0.next (flat_map files_of parts.0) parts.1
  Ok (
    record {
      number = numbers.0.number;
      checkpoint = numbers.0.checkpoint;
      merge = numbers.0.merge;
      horizon = numbers.0.horizon;
      next = numbers.0.next;
      settings = settings.0;
      parts = parts.0;
      removed = removed.0;
    },
    removed.1,
  )
