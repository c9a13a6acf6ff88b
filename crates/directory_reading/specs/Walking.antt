-- How two journals are replayed, one after the other.
use Rattle.std.specs.Prelude.{ℕ, ◌≡◌, ◌≢◌, ◌⊎◌, ◌+◌, ◌-◌, ◌<◌, ◌≤◌, List, [], ◌++◌, map, length, take, slice_get, Some, All, IsFalse, if◌then◌else◌}
use Rattle.doc_meaning.specs.History.{AreEntries, merge_after}
use Rattle.journal_bodies.specs.Entries.{HasValues, IsEntry}
use Rattle.journal_bodies.specs.Roots.{PlainRoot}
use Rattle.directory_meaning.specs.Bodies.{Numbered, RiseFrom, by_first_number, other_of, own_of, past}
use Rattle.directory_meaning.specs.Damages.{IsBelow, goes_first}
use Rattle.directory_reading.specs.Reading.{frozen_of}
use Rattle.directory_reading.specs.declared.entries.EntriesRead.{EntriesRead}
use Rattle.directory_reading.specs.declared.replay.Replay.{Replay}
use Rattle.directory_reading.specs.declared.walk.ReplayPoint.{ReplayPoint}

-- an entry keeps the rules that bind it alone
abbrev pub IsKept : Numbered → Type 0
IsKept e = IsEntry e.0 e.1 × HasValues e.1

-- replaying entries leads from one point to another
pub record Reads (from : ReplayPoint) (entries : List Numbered) (to : ReplayPoint) : Type 0 where
  pub rises : RiseFrom (from.number + 1) entries
  pub rules : AreEntries from.number from.merge (map (λ e. e.1) entries)
  pub reaches : to.number ≡ from.number + length entries
  pub merges : to.merge ≡ merge_after from.merge (map (λ e. e.1) entries)

-- an entry is misplaced after this point
abbrev pub Breaks : ReplayPoint → Numbered → Type 0
Breaks front e = (e.0 ≢ front.number + 1) ⊎ IsBelow front.merge e.1

-- the entry with this index is past the checkpoint, and misplaced after those before it
pub record StopsAt (checkpoint : ℕ) (from : ReplayPoint) (entries : List Numbered) (k : ℕ) : Type 0 where
  pub e : Numbered
  pub reached : ReplayPoint
  pub here : slice_get entries k ≡ Some e
  pub late : checkpoint < e.0
  pub read : Reads from (past checkpoint (take k entries)) reached
  pub breaks : Breaks reached e

-- entries keep the rules that bind each alone, and each has a gate
pub record CanWalk (read : EntriesRead) : Type 0 where
  pub kept : All IsKept read.entries.items
  pub gates : length read.gates.items ≡ length read.entries.items

-- an entry of this journal is misplaced; the place is that of its gate
pub record IsStop (file checkpoint : ℕ) (from : ReplayPoint) (read : EntriesRead) (other place : ℕ) : Type 0 where
  pub log : other ≡ file
  pub frame : ℕ
  pub stops : StopsAt checkpoint from read.entries.items frame
  pub gate : slice_get read.gates.items frame ≡ Some place

-- the point before the entries of a root
abbrev pub start_of : PlainRoot → ReplayPoint
start_of root = record { number = root.checkpoint; merge = root.merge }

-- the entries of the other journal past a checkpoint, if they come before those of this one
abbrev pub ahead_of : ℕ → List Numbered → List Numbered → List Numbered
ahead_of file own other = if goes_first file own other then [] else other

-- this one of two journals has entries past the checkpoint, and they come after those of the other one
pub record ComesLast (checkpoint : ℕ) (entries_0 entries_1 : List Numbered) (file : ℕ) : Type 0 where
  pub journal : file ≤ 1
  pub some : past checkpoint (own_of file entries_0 entries_1) ≢ []
  pub turn : by_first_number (past checkpoint entries_0) (past checkpoint entries_1)
      ≡ past checkpoint (other_of file entries_0 entries_1) ++ past checkpoint (own_of file entries_0 entries_1)
  pub behind : ahead_of file (past checkpoint (own_of file entries_0 entries_1))
      (past checkpoint (other_of file entries_0 entries_1)) ≡ past checkpoint (other_of file entries_0 entries_1)
  pub before : past checkpoint (other_of file entries_0 entries_1) ≢ []
      → ahead_of (1 - file) (past checkpoint (other_of file entries_0 entries_1))
      (past checkpoint (own_of file entries_0 entries_1)) ≡ []

-- the replay of an earlier and a later journal; the later one takes the next entry
pub record ReplaysBoth (root : PlainRoot) (file : ℕ) (earlier later : List Numbered) (replay : Replay) : Type 0 where
  pub front : ReplayPoint
  pub all : replay.entries.items ≡ past root.checkpoint earlier ++ past root.checkpoint later
  pub read : Reads (start_of root) (past root.checkpoint earlier ++ past root.checkpoint later) front
  pub merged : replay.merge ≡ front.merge
  pub goes_to : replay.current ≡ file
  pub stays : IsFalse replay.resets_first
  pub last : replay.frozen ≡ frozen_of root.merge (past root.checkpoint earlier)

-- an entry of the earlier journal is misplaced, or one of the later journal after it
abbrev pub StopsIn : PlainRoot → ℕ → EntriesRead → EntriesRead → ℕ → ℕ → Type 0
StopsIn root file earlier later other place =
    IsStop (1 - file) root.checkpoint (start_of root) earlier other place
    ⊎ ((front : ReplayPoint) × Reads (start_of root) (past root.checkpoint earlier.entries.items) front
    × IsStop file root.checkpoint front later other place)
