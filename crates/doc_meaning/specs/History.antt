-- Histories, and the database at each of their timestamps.
use Rattle.std.specs.Prelude.{ℕ, ◌≡◌, ◌+◌, ◌-◌, ◌≤◌, ◌⊎◌, nat_le, IsTrue, List, [], ◌∷◌, map, take, length, slice_get, slice_index_or, Option, Some, if◌then◌else◌}
use Rattle.std.specs.Cmp.Lexicographic.{slice_cmp}
use Rattle.std.specs.FinMap.{FinMap, empty, insert, remove, get}
use Rattle.std.specs.List.{range_with_len}
use Rattle.std.specs.Ordering.{nat_cmp}
use Rattle.doc_model.specs.Operations.{uri_of, AreOps}
use Rattle.doc_model.specs.Queries.{Index}
use Rattle.doc_model.specs.Tree.{is_distinct}
use Rattle.doc_model.specs.declared.entry.Entry.{Entry}
use Rattle.doc_model.specs.declared.entry.Entry.TheVariants.{Commit, Forget}
use Rattle.doc_model.specs.declared.op.Op.{Op}
use Rattle.doc_model.specs.declared.op.Op.TheVariants.{Put, Remove}
use Rattle.doc_model.specs.declared.settings.Settings.{Settings}
use Rattle.doc_meaning.specs.declared.version.Version.{Version}

-- a finite map from URIs to versions, in the order of their bytes
abbrev pub Database : Type 0
Database = FinMap (slice_cmp nat_cmp) Version

-- the database changed by an operation of the commit at a timestamp
abbrev pub after_op : ℕ → Op → Database → Database
after_op at (Put document expect) db = insert db document.uri (record { document = document; created = at })
after_op at (Remove uri expect) db = remove db uri

-- by its operations in turn
abbrev pub after_ops : ℕ → List Op → Database → Database
after_ops at [] db = db
after_ops at (op ∷ ops) db = after_ops at ops (after_op at op db)

-- by the entry at a timestamp
abbrev pub after_entry : ℕ → Entry → Database → Database
after_entry at (Commit ops) db = after_ops at ops db
after_entry at (Forget to) db = db

-- the entries that follow a timestamp, in turn
abbrev pub after_entries : ℕ → List Entry → Database → Database
after_entries front [] db = db
after_entries front (entry ∷ entries) db = after_entries (front + 1) entries (after_entry (front + 1) entry db)

-- the merge timestamp after these entries: that of the last forget, if there is one
abbrev pub merge_after : ℕ → List Entry → ℕ
merge_after merge [] = merge
merge_after merge (Commit ops ∷ entries) = merge_after merge entries
merge_after merge (Forget to ∷ entries) = merge_after to entries

-- what a database is made with: its range indexes, and how many fragments make a save and parts a merge due
pub record BaseSettings : Type 0 where
  pub indexes : List Index
  pub save_at : ℕ
  pub merge_at : ℕ

abbrev pub settings_of : Settings → BaseSettings
settings_of s = record { indexes = s.indexes; save_at = s.save_at; merge_at = s.merge_at }

-- where a history begins: a front, a merge timestamp, settings, and the databases from the merge timestamp to the front
pub record Base : Type 0 where
  pub front : ℕ
  pub merge : ℕ
  pub settings : BaseSettings
  pub databases : List Database

-- a base and entries; the timestamp of an entry is its place, counted on from the base's front
pub record History : Type 0 where
  pub base : Base
  pub entries : List Entry

-- the base's database at a timestamp from its merge timestamp to its front
abbrev pub base_at : Base → ℕ → Database
base_at base at = slice_index_or base.databases (at - base.merge) empty

-- nothing happened yet
abbrev pub empty_base : BaseSettings → Base
empty_base settings = record { front = 0; merge = 0; settings = settings; databases = empty ∷ [] }

-- the timestamp of the last entry
abbrev pub front : History → ℕ
front h = h.base.front + length h.entries

-- below it nothing is read
abbrev pub merge : History → ℕ
merge h = merge_after h.base.merge h.entries

-- the database at a timestamp from the base's merge timestamp to the front
abbrev pub database_at : History → ℕ → Database
database_at h at =
    if nat_le at h.base.front then base_at h.base at
    else after_entries h.base.front (take (at - h.base.front) h.entries) (base_at h.base h.base.front)

-- the database at the front
abbrev pub latest : History → Database
latest h = database_at h (front h)

-- the history up to a timestamp from the base's front on
abbrev pub first : History → ℕ → History
first h at = record h { entries = take (at - h.base.front) h.entries }

-- what a reader of the front sees of a history, as a base: its databases from the merge timestamp on
abbrev pub shown : History → Base
shown h = record {
  front = front h;
  merge = merge h;
  settings = h.base.settings;
  databases = map (database_at h) (range_with_len (merge h) (front h + 1 - merge h));
}

-- one database per timestamp, each version under its own URI and created by then, and one document per URI and stamp
pub record IsBase (base : Base) : Type 0 where
  pub ordered : base.merge ≤ base.front
  pub each : length base.databases ≡ base.front + 1 - base.merge
  pub uris : (at : ℕ) (uri : List ℕ) (v : Version) → get (base_at base at) uri ≡ Some v → v.document.uri ≡ uri
  pub stamps : (at : ℕ) (uri : List ℕ) (v : Version) → base.merge ≤ at → at ≤ base.front →
      get (base_at base at) uri ≡ Some v → (1 ≤ v.created) × (v.created ≤ at)
  pub same : (at to : ℕ) (uri : List ℕ) (v w : Version) → get (base_at base at) uri ≡ Some v →
      get (base_at base to) uri ≡ Some w → v.created ≡ w.created → v ≡ w

-- entries that may follow a front and a merge timestamp: each commit has operations of distinct URIs, and each forget
-- names a timestamp from the merge timestamp to the front
abbrev pub AreEntries : ℕ → ℕ → List Entry → Type 0
AreEntries front merge [] = Unit {0}
AreEntries front merge (Commit ops ∷ entries) =
    AreOps ops × IsTrue (is_distinct (map uri_of ops)) × AreEntries (front + 1) merge entries
AreEntries front merge (Forget to ∷ entries) = (merge ≤ to) × (to ≤ front) × AreEntries (front + 1) to entries

-- a history that may come about
pub record IsHistory (h : History) : Type 0 where
  pub base : IsBase h.base
  pub entries : AreEntries h.base.front h.base.merge h.entries

-- the commit at a timestamp puts this version
abbrev pub PutsVersion : ℕ → Entry → Version → Type 0
PutsVersion at (Commit ops) v = (k : ℕ) × (expect : Option ℕ) × (slice_get ops k ≡ Some (Put v.document expect)) ×
    (v.created ≡ at)
PutsVersion at (Forget to) v = ⊥

-- a version that the base has, or that an entry puts
abbrev pub IsVersion : History → Version → Type 0
IsVersion h v =
    ((at : ℕ) × (h.base.merge ≤ at) × (at ≤ h.base.front) × (get (base_at h.base at) v.document.uri ≡ Some v))
    ⊎ ((k : ℕ) × (entry : Entry) × (slice_get h.entries k ≡ Some entry) × PutsVersion (h.base.front + k + 1) entry v)
