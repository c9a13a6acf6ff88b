-- What opening and making a directory's logs does.
use Rattle.std.specs.Prelude.{ℕ, ◌≡◌, ◌≢◌, ◌+◌, Bool, List, map, Option, option_map, None, Some, IsSome, IfSome, if◌then◌else◌}
use Rattle.disk_model.specs.Files.{Files}
use Rattle.disk_model.specs.Logs.{Image}
use Rattle.disk_model.specs.Stretches.{OnlyRead}
use Rattle.disk_model.specs.declared.disk.Disk
use Rattle.doc_meaning.specs.History.{History}
use Rattle.doc_model.specs.declared.settings.Settings.{Settings}
use Rattle.directory_meaning.specs.Bodies.{Bodies, HasBodies, IsJournal, Numbered, RiseFrom, TellsRoot, other_of, past}
use Rattle.directory_meaning.specs.Current.{Chooses}
use Rattle.directory_meaning.specs.Damages.{FindsNewest}
use Rattle.directory_meaning.specs.Directories.{HasNoRoot}
use Rattle.directory_meaning.specs.Laws.{no_bodies}
use Rattle.directory_meaning.specs.Shown.{IsBaseOf, Tells, TellsAt, first_root, only_body, without_first}
use Rattle.directory_reading.specs.Reading.{frozen_of}
use Rattle.frame_log.specs.LogStates.{file_of}
use Rattle.journal.specs.JournalStates.{AreTrimmed, AreUp, AreWithin, LogsRepresent, current_of, owed_of, root_log}
use Rattle.journal.specs.Refusing.{NotMade, NotScanned}
use Rattle.journal.specs.declared.journal.Journal.{Journal}
use Rattle.journal.specs.declared.opening.Scanned.{Scanned}
use Rattle.journal.specs.declared.refusal.JournalRefusal.{JournalRefusal}
use Rattle.journal.specs.declared.refusal.JournalRefusal.TheVariants as refusal
use Rattle.journal.specs.declared.refusal.MakeRefusal.{MakeRefusal}
use Rattle.journal.specs.declared.refusal.MakeRefusal.TheVariants as make
use Rattle.journal_bodies.specs.Roots.{SpellsRoot}

-- the root and the entries are those of this history, whose readers go back to this merge timestamp
pub record Scans (files : Files) (bodies : Bodies) (h : History) (merge : ℕ) (scanned : Scanned) : Type 0 where
  pub tells : Tells files bodies h merge
  pub newest : TellsRoot bodies scanned.root
  pub base : IsBaseOf files scanned.root h.base
  pub entries : h.entries ≡ map (λ e. e.1) scanned.entries.items
  pub numbers : RiseFrom (h.base.front + 1) scanned.entries.items

-- the root log with the newest root is current. The entries choose the journal that takes the next one, and the other
-- one is frozen if it has entries past the checkpoint
pub record GoesOnWith (read : Bodies) (scanned : Scanned) (journal : Journal) (file : ℕ) (resets : Bool) : Type 0 where
  pub entries_0 : List Numbered
  pub entries_1 : List Numbered
  pub first_journal : IsJournal (read 0) entries_0
  pub second_journal : IsJournal (read 1) entries_1
  pub chooses : Chooses scanned.root.checkpoint entries_0 entries_1 file resets
  pub last : scanned.frozen
      ≡ frozen_of scanned.root.merge (past scanned.root.checkpoint (other_of file entries_0 entries_1))
  pub frozen : journal.frozen ≡ option_map (λ f. f.entry) scanned.frozen
  pub newest : (k : ℕ) × FindsNewest read scanned.root (file_of (root_log journal)) k

module _ {D : Type 0} (of_disk : Disk.Ghosts D) where
  -- the logs have the frames that were read, except those of a journal that was reset; no bytes follow them, and the
  -- next entry can be appended
  pub record Opened (files : Files) (image : Image) (disk : D) (journal : Journal) (scanned : Scanned) : Type 0 where
    pub read : Bodies
    pub history : History
    pub merge : ℕ
    pub resets : Bool
    pub has : HasBodies read image
    pub scans : Scans files read history merge scanned
    pub goes_on : GoesOnWith read scanned journal (current_of journal) resets
    pub up : AreUp journal
    pub represents : LogsRepresent of_disk journal disk (if resets then without_first read else read) no_bodies
    pub tells : TellsAt files (if resets then without_first read else read) (current_of journal) history merge
    pub trimmed : AreTrimmed journal (of_disk.seen disk) (of_disk.may_leave disk)

  -- the logs have the first root alone, and journal 0 takes the first entry
  pub record Made (settings : Settings) (disk : D) (journal : Journal) : Type 0 where
    pub body : List ℕ
    pub first : SpellsRoot body (first_root settings)
    pub up : AreUp journal
    pub represents : LogsRepresent of_disk journal disk (only_body 2 body) no_bodies
    pub current : current_of journal ≡ 0
    pub owes : owed_of journal ≡ 0

  -- the logs were opened: they are up, nothing is broken off, and they tell what the image told, if the disk's content
  -- is known. The newest root names no files so far, so this holds whatever files are kept
  pub record OpensLogs (old new : D) (journal : Journal) (scanned : Scanned) : Type 0 where
    pub found : IfSome (of_disk.seen old) (λ image. (files : Files) → Opened files image new journal scanned)
    pub up : AreUp journal
    pub whole : journal.broken_off ≡ None
    pub within : AreWithin journal (of_disk.seen new)
    pub rises : RiseFrom (scanned.root.checkpoint + 1) scanned.entries.items

  -- the logs weren't opened for this reason, and the disk was only read unless it failed
  pub record RefusesLogs (old new : D) (why : JournalRefusal) : Type 0 where
    pub reason : IfSome (of_disk.seen old) (λ image. NotScanned image why)
    pub kept : IsSome (of_disk.seen old) → why ≢ refusal.Fault → OnlyRead of_disk old new

  -- the logs of an empty database were made: they are up, nothing is broken off, and there was no root if the disk's
  -- content is known
  pub record MakesLogs (settings : Settings) (old new : D) (journal : Journal) : Type 0 where
    pub made : IfSome (of_disk.seen old) (λ image. HasNoRoot image × Made settings new journal)
    pub up : AreUp journal
    pub whole : journal.broken_off ≡ None
    pub within : AreWithin journal (of_disk.seen new)

  -- the logs weren't made for this reason, and the disk was only read unless it failed
  pub record RefusesNewLogs (old new : D) (why : MakeRefusal) : Type 0 where
    pub reason : IfSome (of_disk.seen old) (λ image. NotMade image why)
    pub kept : why ≢ make.Fault → OnlyRead of_disk old new
