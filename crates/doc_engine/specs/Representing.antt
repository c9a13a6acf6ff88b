-- What an engine's logs represent, with the files that are kept.
use Rattle.std.specs.Prelude.{ℕ, ◌≡◌, ◌⊎◌, ◌+◌, ◌≤◌, List, [], ◌∷◌, Option, Some, None}
use Rattle.directory_meaning.specs.Bodies.{Bodies, HasBodies}
use Rattle.directory_meaning.specs.Laws.{no_bodies}
use Rattle.directory_meaning.specs.Shown.{Shows, Tells, TellsAt, only_body, shown_from, with_entry}
use Rattle.disk_model.specs.Files.{Files}
use Rattle.disk_model.specs.Logs.{Image}
use Rattle.disk_model.specs.declared.disk.Disk
use Rattle.doc_meaning.specs.History.{AreEntries, History, front, merge, shown}
use Rattle.doc_model.specs.declared.entry.Entry.{Entry}
use Rattle.frame_log.specs.LogStates.{IsDown}
use Rattle.journal.specs.JournalStates.{AreUp, LogsRepresent, current_log, current_of}
use Rattle.journal.specs.declared.journal.Journal.{Journal}
use Rattle.journal_bodies.specs.Entries.{SpellsEntry}

-- the logs keep their format, and with these files they tell a history and a merge timestamp
pub record KeepsFormat (files : Files) (image : Image) : Type 0 where
  pub bodies : Bodies
  pub history : History
  pub merge : ℕ
  pub has : HasBodies bodies image
  pub tells : Tells files bodies history merge

-- an image shows what a reader sees at the front of the history, or of it with a pending entry
abbrev pub ShowsWith : Files → History → Option Entry → Image → Type 0
ShowsWith files h None image = Shows files image (shown h)
ShowsWith files h (Some entry) image = Shows files image (shown h) ⊎ Shows files image (shown (with_entry h entry))

-- the frames that a pending entry may leave
abbrev pub Leaves : ℕ → ℕ → Option Entry → Bodies → Type 0
Leaves file number None more = more ≡ no_bodies
Leaves file number (Some entry) more = (body : List ℕ) × SpellsEntry body number entry × (more ≡ only_body file body)

-- no log is down, or the current journal is since an entry was broken off
abbrev pub IsUpOr : Option Entry → Journal → Type 0
IsUpOr None journal = AreUp journal
IsUpOr (Some entry) journal = IsDown (current_log journal)

-- a pending entry might follow
abbrev pub MayFollow : History → Option Entry → Type 0
MayFollow h None = Unit {0}
MayFollow h (Some entry) = AreEntries (front h) (merge h) (entry ∷ [])

module _ {D : Type 0} (of_disk : Disk.Ghosts D) where
  -- with these files the logs represent this history, perhaps with an entry that a fault broke off: what their frames
  -- tell shows the same
  pub record RepresentsHistory (files : Files) (journal : Journal) (disk : D) (h : History) (pending : Option Entry)
      : Type 0 where
    pub told : History
    pub since : ℕ
    pub kept : Bodies
    pub more : Bodies
    pub same : shown_from since told ≡ shown h
    pub ordered : merge h ≤ front h
    pub tells : TellsAt files kept (current_of journal) told since
    pub leaves : Leaves (current_of journal) (front h + 1) pending more
    pub follows : MayFollow h pending
    pub represents : LogsRepresent of_disk journal disk kept more
    pub up : IsUpOr pending journal
