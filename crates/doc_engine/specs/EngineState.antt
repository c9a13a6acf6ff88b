-- What an engine holds, the history that it is at, and what a reader sees of it.
use Rattle.std.specs.Prelude.{ℕ, ◌≡◌, Option, option_map}
use Rattle.disk_model.specs.Files.{Files, files_in}
use Rattle.disk_model.specs.declared.disk.Disk
use Rattle.disk_model.specs.declared.world.Store.{Store}
use Rattle.disk_model.specs.declared.yard.Build
use Rattle.disk_model.specs.declared.yard.SealedFile
use Rattle.disk_model.specs.declared.yard.Yard
use Rattle.doc_engine.specs.declared.engine.Engine.{Engine}
use Rattle.doc_engine.specs.declared.snapshot.Snapshot.{Snapshot}
use Rattle.doc_meaning.specs.History.{BaseSettings, Database, History, front, latest, merge, settings_of}
use Rattle.journal.specs.declared.journal.Journal.{Journal}

-- what a reader sees: the front, the timestamp from which it reads, the settings, and the documents at the front
pub record ReadState : Type 0 where
  pub front : ℕ
  pub merge : ℕ
  pub settings : BaseSettings
  pub documents : Database

-- this is seen of a history by readers that go back to this merge timestamp
pub record IsReadStateOf (seen : ReadState) (since : ℕ) (h : History) : Type 0 where
  pub front : seen.front ≡ front h
  pub merge : seen.merge ≡ since
  pub settings : seen.settings ≡ h.base.settings
  pub documents : seen.documents ≡ latest h

-- what a snapshot shows
abbrev pub view_of : Snapshot → ReadState
view_of snapshot = record {
  front = snapshot.front;
  merge = snapshot.merge;
  settings = settings_of snapshot.settings.now;
  documents = snapshot.documents.now;
}

-- a snapshot shows the front of a history to readers that go back to this merge timestamp, or to its own
abbrev pub SeesSince : Snapshot → ℕ → History → Type 0
SeesSince snapshot merge h = IsReadStateOf (view_of snapshot) merge h

abbrev pub Sees : Snapshot → History → Type 0
Sees snapshot h = SeesSince snapshot (merge h) h

-- the files that a yard holds, where that is told
abbrev pub files_of : {Y F B : Type 0} → Yard.Ghosts Y F B → Y → Option Files
files_of of_yard yard = option_map files_in (of_yard.holds yard)

module _ {D Y F B : Type 0} {of_disk : Disk.Ghosts D} {of_yard : Yard.Ghosts Y F B} {of_file : SealedFile.Ghosts F}
    {of_build : Build.Ghosts B F} where
  -- what a reader sees of an engine
  abbrev pub read_state : Engine D Y F B of_disk of_yard of_file of_build → ReadState
  read_state engine = record {
    front = engine.front;
    merge = engine.merge;
    settings = settings_of engine.settings;
    documents = engine.live;
  }

  -- the timestamp of its last entry
  abbrev pub front_of : Engine D Y F B of_disk of_yard of_file of_build → ℕ
  front_of engine = engine.front

  -- the disk's count of faults since which a log is down
  abbrev pub down_since : Engine D Y F B of_disk of_yard of_file of_build → Option ℕ
  down_since engine = engine.down

  -- the engine is at a history, and its readers go back to this merge timestamp, or to the history's own
  abbrev pub IsAtSince : Engine D Y F B of_disk of_yard of_file of_build → ℕ → History → Type 0
  IsAtSince engine merge h = IsReadStateOf (read_state engine) merge h

  abbrev pub IsAt : Engine D Y F B of_disk of_yard of_file of_build → History → Type 0
  IsAt engine h = IsAtSince engine (merge h) h

  -- its logs, its disk and its yard
  abbrev pub journal_of : Engine D Y F B of_disk of_yard of_file of_build → Journal
  journal_of engine = engine.journal

  abbrev pub disk_of : Engine D Y F B of_disk of_yard of_file of_build → D
  disk_of engine = engine.disk

  abbrev pub yard_of : Engine D Y F B of_disk of_yard of_file of_build → Y
  yard_of engine = engine.yard

  -- its directory
  abbrev pub store_of : Engine D Y F B of_disk of_yard of_file of_build → Store D Y
  store_of engine = record { disk = disk_of engine; yard = yard_of engine }
