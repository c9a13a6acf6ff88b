-- What was read of the bodies of logs.
use Rattle.std.specs.Prelude.{ℕ, ◌≡◌, ◌<◌, ◌+◌, List, [], length, map, slice_get, Option, option_map, Some, MatchOption}
use Rattle.doc_meaning.specs.History.{AreEntries, merge_after}
use Rattle.journal_bodies.specs.Roots.{PlainRoot, SpellsRoot}
use Rattle.directory_meaning.specs.Bodies.{AreRoots, Bodies, IsJournal, IsNewest, Numbered, RiseFrom, by_first_number, last_of, other_of, past}
use Rattle.directory_meaning.specs.Current.{Chooses}
use Rattle.directory_meaning.specs.Damages.{FindsNewest, NamesFiles, gate_of}
use Rattle.directory_reading.specs.declared.entries.EntriesRead.{EntriesRead}
use Rattle.directory_reading.specs.declared.newest.Newest.{Newest}
use Rattle.directory_reading.specs.declared.replay.Frozen.{Frozen}
use Rattle.directory_reading.specs.declared.replay.Replay.{Replay}

-- the entries of a journal with these bodies, and the places of the gates of their frames
pub record HasEntries (bodies : List (List ℕ)) (read : EntriesRead) : Type 0 where
  pub journal : IsJournal bodies read.entries.items
  pub gates : length read.gates.items ≡ length bodies
  pub placed : (k : ℕ) → k < length bodies → slice_get read.gates.items k ≡ Some (gate_of bodies k)

-- a root names no parts and no files to be removed
abbrev pub IsWithoutFiles : PlainRoot → Type 0
IsWithoutFiles root = (root.parts ≡ []) × (root.removed ≡ [])

-- the place of the count of the first files that a root names, whose frame has this gate
abbrev pub PlacesFiles : ℕ → PlainRoot → Option ℕ → Type 0
PlacesFiles gate root place =
    MatchOption place (IsWithoutFiles root) (λ p. (at : ℕ) × NamesFiles root at × (p ≡ gate + 9 + at))

-- the root of this body of a root log, whose frame has its gate at this place
pub record IsRootAt (file place : ℕ) (body : List ℕ) (found : Newest) : Type 0 where
  pub log : found.file ≡ file
  pub gate : found.gate ≡ place
  pub spelled : SpellsRoot body found.root
  pub files : PlacesFiles found.gate found.root found.files

-- the newest of the roots of a root log with these bodies
pub record IsNewestOf (file : ℕ) (bodies : List (List ℕ)) (roots : List PlainRoot) (found : Newest) : Type 0 where
  pub newest : IsNewest roots found.root
  pub log : found.file ≡ file
  pub gate : found.gate ≡ gate_of bodies (length newest.before)
  pub files : PlacesFiles found.gate found.root found.files

-- the newest root of a root log with these bodies, if it has roots
pub record HasNewest (file : ℕ) (bodies : List (List ℕ)) (newest : Option Newest) : Type 0 where
  pub roots : List PlainRoot
  pub spelled : AreRoots bodies roots
  pub best : MatchOption newest (roots ≡ []) (IsNewestOf file bodies roots)

-- the newest root of both root logs, with its place and that of the files that it names
pub record IsNewestRoot (bodies : Bodies) (found : Newest) : Type 0 where
  pub k : ℕ
  pub newest : FindsNewest bodies found.root found.file k
  pub gate : found.gate ≡ gate_of (bodies found.file) k
  pub files : PlacesFiles found.gate found.root found.files

-- the last of the entries of a frozen journal, which follow this merge timestamp, and the merge timestamp after it
abbrev pub frozen_of : ℕ → List Numbered → Option Frozen
frozen_of merge entries = option_map
    (λ entry. record { entry = entry; merge = merge_after merge (map (λ e. e.1) entries) }) (last_of entries)

-- the entries of two journals past a root's checkpoint, in order, and the journal that takes the next entry
pub record Replays (root : PlainRoot) (entries_0 entries_1 : List Numbered) (replay : Replay) : Type 0 where
  pub entries : replay.entries.items ≡ by_first_number (past root.checkpoint entries_0) (past root.checkpoint entries_1)
  pub rises : RiseFrom (root.checkpoint + 1) replay.entries.items
  pub rules : AreEntries root.checkpoint root.merge (map (λ e. e.1) replay.entries.items)
  pub merge : replay.merge ≡ merge_after root.merge (map (λ e. e.1) replay.entries.items)
  pub current : Chooses root.checkpoint entries_0 entries_1 replay.current replay.resets_first
  pub frozen : replay.frozen ≡ frozen_of root.merge (past root.checkpoint (other_of replay.current entries_0 entries_1))
