-- What the logs and the sealed files of a directory show: a base, or nothing.
use Rattle.std.specs.Prelude.{ℕ, ◌≡◌, ◌⊎◌, ◌+◌, ◌-◌, ◌≤◌, ◌==◌, List, [], ◌∷◌, ◌++◌, map, length, if◌then◌else◌}
use Rattle.std.specs.List.{range_with_len}
use Rattle.std.specs.FinMap.{empty}
use Rattle.disk_model.specs.Files.{Files}
use Rattle.disk_model.specs.Logs.{Image}
use Rattle.doc_model.specs.declared.entry.Entry.{Entry}
use Rattle.doc_model.specs.declared.settings.Settings.{Settings}
use Rattle.doc_meaning.specs.History.{AreEntries, Base, Database, History, base_at, database_at, front, merge_after, settings_of}
use Rattle.journal_bodies.specs.Roots.{PlainRoot}
use Rattle.journal_bodies.specs.declared.root.PartFiles.{PartFiles}
use Rattle.directory_meaning.specs.Bodies.{Bodies, HasBodies, IsJournal, Numbered, RiseFrom, TellsEntries, TellsRoot, past}

-- the parts of a root show this database at a timestamp; no part is written so far, so the files of parts show nothing
abbrev pub PartsShow : Files → List PartFiles → ℕ → Database → Type 0
PartsShow files parts at db = (parts ≡ []) × (db ≡ empty)

-- the base that a root tells with its files: it ends at the checkpoint, and has the databases from the horizon on
pub record IsBaseOf (files : Files) (root : PlainRoot) (base : Base) : Type 0 where
  pub front : base.front ≡ root.checkpoint
  pub horizon : base.merge ≡ root.horizon
  pub settings : base.settings ≡ settings_of root.settings
  pub each : length base.databases ≡ root.checkpoint + 1 - root.horizon
  pub databases : (at : ℕ) → root.horizon ≤ at → at ≤ root.checkpoint → PartsShow files root.parts at (base_at base at)

-- the frames and files tell this history: it begins with the newest root, and goes on with the entries past the
-- checkpoint. Its readers go back to a merge timestamp: that of the last forget past the checkpoint, or the root's; it
-- isn't below the horizon
pub record Tells (files : Files) (bodies : Bodies) (h : History) (merge : ℕ) : Type 0 where
  pub root : PlainRoot
  pub newest : TellsRoot bodies root
  pub base : IsBaseOf files root h.base
  pub entries : TellsEntries bodies root.checkpoint h.entries
  pub rules : AreEntries root.checkpoint root.merge h.entries
  pub merged : merge ≡ merge_after root.merge h.entries
  pub horizon : root.horizon ≤ merge

-- what a reader of the front sees of a history from a merge timestamp on, as a base
abbrev pub shown_from : ℕ → History → Base
shown_from merge h = record {
  front = front h;
  merge = merge;
  settings = h.base.settings;
  databases = map (database_at h) (range_with_len merge (front h + 1 - merge));
}

-- an image with these files shows this base: what a reader sees at the front of the history that they tell
pub record Shows (files : Files) (image : Image) (base : Base) : Type 0 where
  pub bodies : Bodies
  pub history : History
  pub merge : ℕ
  pub has : HasBodies bodies image
  pub tells : Tells files bodies history merge
  pub ordered : merge ≤ front history
  pub shown : base ≡ shown_from merge history

-- one more body at the end of a log
abbrev pub with_body : Bodies → ℕ → List ℕ → Bodies
with_body bodies file body other = if other == file then bodies other ++ body ∷ [] else bodies other

-- this body in this log, and no other
abbrev pub only_body : ℕ → List ℕ → Bodies
only_body file body other = if other == file then body ∷ [] else []

-- the first journal without its frames
abbrev pub without_first : Bodies → Bodies
without_first bodies file = if file == 0 then [] else bodies file

-- one more entry
abbrev pub with_entry : History → Entry → History
with_entry h entry = record h { entries = h.entries ++ entry ∷ [] }

-- a journal may take the next entry: past the checkpoint its entries follow those of the other journal up to the front,
-- and it has no entry, or its last one is at the front
pub record TakesNext (checkpoint front : ℕ) (own other : List Numbered) : Type 0 where
  pub rises : RiseFrom (checkpoint + 1) (past checkpoint other ++ past checkpoint own)
  pub reaches : front ≡ checkpoint + length (past checkpoint other) + length (past checkpoint own)
  pub next : (own ≡ []) ⊎ ((n : ℕ) × RiseFrom n own × (n + length own ≡ front + 1))

-- the next entry goes to this journal
pub record IsCurrent (bodies : Bodies) (checkpoint front file : ℕ) : Type 0 where
  pub own : List Numbered
  pub other : List Numbered
  pub journal : file ≤ 1
  pub own_journal : IsJournal (bodies file) own
  pub other_journal : IsJournal (bodies (1 - file)) other
  pub takes : TakesNext checkpoint front own other

-- the frames and files tell this history and merge timestamp, and the next entry goes to this journal
pub record TellsAt (files : Files) (bodies : Bodies) (file : ℕ) (h : History) (merge : ℕ) : Type 0 where
  pub tells : Tells files bodies h merge
  pub current : IsCurrent bodies h.base.front (front h) file

-- the first root of a directory
abbrev pub first_root : Settings → PlainRoot
first_root settings = record {
  number = 1;
  checkpoint = 0;
  merge = 0;
  horizon = 0;
  next = 1;
  settings = settings;
  parts = [];
  removed = [];
}
