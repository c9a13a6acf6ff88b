-- The bytes of a root.
use Rattle.std.specs.Prelude.{◌≡◌, ◌<◌, ◌≤◌, ℕ, ◌^◌, Bool, true, ◌&&◌, not, nat_lt, ◌==◌, List, [], ◌∷◌, ◌++◌, length, IsTrue}
use Rattle.std.specs.List.{flat_map, list_all, list_any}
use Rattle.std.specs.Str.{is_utf8}
use Rattle.byteorder.specs.Endian.{big_bytes}
use Rattle.doc_model.specs.Queries.{Index, is_index_list}
use Rattle.doc_model.specs.declared.indexes.Kind.{Kind}
use Rattle.doc_model.specs.declared.indexes.Kind.TheVariants as kind
use Rattle.doc_model.specs.declared.settings.Settings.{Settings}
use Rattle.docs_format.specs.Spelling.{count, text}
use Rattle.journal_bodies.specs.declared.root.PartFiles.{PartFiles}
use Rattle.journal_bodies.specs.declared.root.Root.{Root}

-- a root as plain data
abbrev pub PlainRoot : Type 0
PlainRoot = Root

-- a number in eight bytes, big-endian
unfoldable pub long : ℕ → List ℕ
long n = big_bytes 8 n

-- how many values there are, and each
abbrev pub listed : {X : Type 0} → (X → List ℕ) → List X → List ℕ
listed spelling list = count (length list) ++ flat_map spelling list

-- the byte that says the kind of an index
abbrev pub kind_byte : Kind → ℕ
kind_byte kind.Decimal = 0
kind_byte kind.Text = 1

-- a range index: the name of its property, and a byte for its kind
abbrev pub index : Index → List ℕ
index i = text i.0 ++ kind_byte i.1 ∷ []

-- a part: the numbers of its files, and how many fragments it has
abbrev pub part : PartFiles → List ℕ
part p = long p.index ++ long p.documents ++ long p.stamps ++ count p.fragments

-- its own number, the checkpoint, the merge timestamp, the horizon, and the number of the next file
abbrev pub numbers : PlainRoot → List ℕ
numbers r = long r.number ++ long r.checkpoint ++ long r.merge ++ long r.horizon ++ long r.next

-- when saves and merges are due, and the range indexes
abbrev pub settings : Settings → List ℕ
settings s = count s.save_at ++ count s.merge_at ++ listed index s.indexes

-- a root: a byte for its kind, its numbers, its settings, its parts, and the files to be removed
abbrev pub root : PlainRoot → List ℕ
root r = 3 ∷ numbers r ++ settings r.settings ++ listed part r.parts ++ listed long r.removed

-- the files of a part
abbrev pub files_of : PartFiles → List ℕ
files_of p = p.index ∷ p.documents ∷ p.stamps ∷ []

-- the files that a root names: those of its parts, then those to be removed
abbrev pub files : PlainRoot → List ℕ
files r = flat_map files_of r.parts ++ r.removed

-- the number is in the list
abbrev pub has : List ℕ → ℕ → Bool
has list n = list_any (λ m. n == m) list

-- no number is in the list twice
abbrev pub is_distinct : List ℕ → Bool
is_distinct [] = true
is_distinct (n ∷ list) = not (has list n) && is_distinct list

-- the rules of a root
pub record IsRoot (r : PlainRoot) : Type 0 where
  pub number : 1 ≤ r.number
  pub horizon : r.horizon ≤ r.checkpoint
  pub next : 1 ≤ r.next
  pub below : IsTrue (list_all (λ n. nat_lt n r.next) (files r))
  pub distinct : IsTrue (is_distinct (files r))
  pub names : IsTrue (list_all (λ i. nat_lt (length i.0) (2 ^ 32)) r.settings.indexes)
  pub parts : length r.parts < 2 ^ 32
  pub removed : length r.removed < 2 ^ 32

-- the numbers that a root begins with fit their eight bytes
pub record AreInRange (r : PlainRoot) : Type 0 where
  pub number : r.number < 2 ^ 64
  pub checkpoint : r.checkpoint < 2 ^ 64
  pub merge : r.merge < 2 ^ 64
  pub horizon : r.horizon < 2 ^ 64
  pub next : r.next < 2 ^ 64

-- the values of a root are in the range of their fields, and its range indexes are at most 64 distinct pairs
pub record HasRanges (r : PlainRoot) : Type 0 where
  pub front : AreInRange r
  pub save_at : r.settings.save_at < 2 ^ 32
  pub merge_at : r.settings.merge_at < 2 ^ 32
  pub fragments : IsTrue (list_all (λ p. nat_lt p.fragments (2 ^ 32)) r.parts)
  pub names : IsTrue (list_all (λ i. is_utf8 i.0) r.settings.indexes)
  pub indexes : IsTrue (is_index_list r.settings.indexes)

-- the bytes are those of a root that keeps every rule
pub record SpellsRoot (bytes : List ℕ) (r : PlainRoot) : Type 0 where
  pub rules : IsRoot r
  pub ranges : HasRanges r
  pub spelled : bytes ≡ root r
