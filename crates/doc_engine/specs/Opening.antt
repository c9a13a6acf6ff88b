-- What opening and making a directory return, and what the engine is then.
use Rattle.std.specs.Prelude.{ℕ, ◌≡◌, ◌≢◌, ◌≤◌, max, [], length, Option, None, IfSome, IsSome, Result, Ok, Err, ⊤}
use Rattle.disk_model.specs.Causes.{Rose}
use Rattle.disk_model.specs.Files.{Files}
use Rattle.disk_model.specs.Logs.{Image}
use Rattle.disk_model.specs.Stretches.{OnlyRead}
use Rattle.disk_model.specs.declared.disk.Disk
use Rattle.disk_model.specs.declared.yard.Build
use Rattle.disk_model.specs.declared.yard.SealedFile
use Rattle.disk_model.specs.declared.yard.Yard
use Rattle.doc_engine.specs.EngineState.{IsAt, IsAtSince, disk_of, down_since, files_of, journal_of, yard_of}
use Rattle.doc_engine.specs.Representing.{KeepsFormat, RepresentsHistory}
use Rattle.doc_engine.specs.declared.engine.Engine.{Engine}
use Rattle.doc_engine.specs.declared.refusal.OpenRefused.{OpenRefused}
use Rattle.doc_engine.specs.declared.refusal.OpenWhy.{OpenWhy}
use Rattle.doc_engine.specs.declared.refusal.OpenWhy.TheVariants as reason
use Rattle.doc_meaning.specs.History.{Base, BaseSettings, History, empty_base}
use Rattle.frame_log.specs.LogStates.{end_of}
use Rattle.journal.specs.JournalStates.{current_log}
use Rattle.journal.specs.Refusing.{AreDamaged, AreDamagedRoots}
use Rattle.directory_meaning.specs.Directories.{HasNoRoot, IsTaken, IsUsed, KeepsShown, MakesShown}
use Rattle.journal.specs.declared.journal.Journal.{Journal}
use Rattle.journal.specs.declared.refusal.JournalRefusal.{JournalRefusal}
use Rattle.journal.specs.declared.refusal.JournalRefusal.TheVariants as refusal
use Rattle.journal.specs.declared.refusal.MakeRefusal.{MakeRefusal}
use Rattle.journal.specs.declared.refusal.MakeRefusal.TheVariants as make
use Rattle.directory_meaning.specs.Shown.{Shows}

-- the history that begins with a base
abbrev pub begins : Base → History
begins base = record { base = base; entries = [] }

-- the length of the longer journal
abbrev pub longest_of : Image → ℕ
longest_of image = max (length (image 0)) (length (image 1))

-- why a directory wasn't opened
abbrev pub NotOpened : Image → OpenWhy → Type 0
NotOpened image reason.AlreadyThere = ⊥
NotOpened image reason.NotThere = HasNoRoot image
NotOpened image (reason.Damaged file place) = AreDamaged image file place
NotOpened image reason.Fault = ⊤
NotOpened image reason.Memory = ⊤

-- a refusal of the logs as one of the directory
abbrev pub open_why : JournalRefusal → OpenWhy
open_why refusal.NotThere = reason.NotThere
open_why (refusal.Damaged file place) = reason.Damaged file place
open_why refusal.Fault = reason.Fault
open_why refusal.Memory = reason.Memory

-- why a directory wasn't made
abbrev pub NotCreated : Image → OpenWhy → Type 0
NotCreated image reason.AlreadyThere = IsTaken image
NotCreated image reason.NotThere = ⊥
NotCreated image (reason.Damaged file place) = AreDamagedRoots image file place
NotCreated image reason.Fault = ⊤
NotCreated image reason.Memory = ⊤

-- a refusal of making the logs as one of the directory
abbrev pub made_why : MakeRefusal → OpenWhy
made_why make.AlreadyThere = reason.AlreadyThere
made_why (make.Damaged file place) = reason.Damaged file place
made_why make.Fault = reason.Fault
made_why make.Memory = reason.Memory

module _ {D : Type 0} (disk : Disk.Ghosts D) where
  -- a directory wasn't opened, for this reason; what was refused for what it holds was only read
  pub record RefusesOpening (before after : D) (why : OpenWhy) : Type 0 where
    pub kind : why ≢ reason.AlreadyThere
    pub cause : IfSome (disk.seen before) (λ image. NotOpened image why)
    pub kept : IsSome (disk.seen before) → why ≢ reason.Fault → why ≢ reason.Memory
        → OnlyRead disk before after
    pub rose : why ≡ reason.Fault → Rose (disk.faults before) (disk.faults after)

  -- a directory wasn't made, for this reason; unless the disk failed it was only read
  pub record RefusesCreating (before after : D) (why : OpenWhy) : Type 0 where
    pub kind : why ≢ reason.NotThere
    pub cause : IfSome (disk.seen before) (λ image. NotCreated image why)
    pub kept : why ≢ reason.Fault → OnlyRead disk before after
    pub rose : why ≡ reason.Fault → Rose (disk.faults before) (disk.faults after)

  -- at each moment each image shows what one showed before, or nothing, or the empty base; of a directory with a root,
  -- or whose root logs are damaged, each shows what one showed before, and the bytes are as before
  pub record KeepsUntilCreated (settings : BaseSettings) (before after : D) : Type 0 where
    pub images : IsSome (disk.seen before)
        → MakesShown disk settings before after
    pub used : IfSome (disk.seen before) (λ image. IsUsed image
        → OnlyRead disk before after)

module _ {D Y F B : Type 0} {of_disk : Disk.Ghosts D} {of_yard : Yard.Ghosts Y F B} {of_file : SealedFile.Ghosts F}
    {of_build : Build.Ghosts B F} where
  -- the directory that the engine has, or that comes back
  abbrev pub disk_after : Result (Engine D Y F B of_disk of_yard of_file of_build) (OpenRefused D Y) → D
  disk_after (Ok engine) = engine.disk
  disk_after (Err refused) = refused.disk

  abbrev pub yard_after : Result (Engine D Y F B of_disk of_yard of_file of_build) (OpenRefused D Y) → Y
  yard_after (Ok engine) = engine.yard
  yard_after (Err refused) = refused.yard

  -- the engine is at this base, and with these files its logs represent it
  pub record BeginsAt (files : Files) (base : Base) (engine : Engine D Y F B of_disk of_yard of_file of_build)
      : Type 0 where
    pub is_at : IsAt engine (begins base)
    pub represents : RepresentsHistory of_disk files (journal_of engine) (disk_of engine) (begins base) None

  -- the logs kept their format, the engine is at the history that they told with these files, and begins at the base
  -- that the image showed, if it showed one
  pub record Opens (files : Files) (image : Image) (engine : Engine D Y F B of_disk of_yard of_file of_build)
      : Type 0 where
    pub format : KeepsFormat files image
    pub is_at : IsAtSince engine format.merge format.history
    pub begun : (base : Base) → Shows files image base → BeginsAt files base engine

  -- a directory was opened: the engine is up, and where disk and yard told what they hold it is at the history of the
  -- logs and files, and its journal ends within the longest one that was found
  pub record OpensDirectory (before : D) (engine : Engine D Y F B of_disk of_yard of_file of_build) : Type 0 where
    pub up : down_since engine ≡ None
    pub opens : IfSome (of_disk.seen before) (λ image. IfSome (files_of of_yard (yard_of engine)) (λ files.
        Opens files image engine))
    pub longest : IfSome (of_disk.seen before) (λ image.
        end_of (current_log (journal_of engine)) ≤ longest_of image)

  -- a directory that had no root was made: the engine is up, and at the empty base, whatever files are kept
  pub record CreatesDirectory (settings : BaseSettings) (before : D)
      (engine : Engine D Y F B of_disk of_yard of_file of_build) : Type 0 where
    pub up : down_since engine ≡ None
    pub creates : IfSome (of_disk.seen before) (λ image. HasNoRoot image
        × ((files : Files) → BeginsAt files (empty_base settings) engine))

  -- a directory was opened, or not
  abbrev pub AnswersOpen : D → Result (Engine D Y F B of_disk of_yard of_file of_build) (OpenRefused D Y) → Type 0
  AnswersOpen before (Ok engine) = OpensDirectory before engine
  AnswersOpen before (Err refused) = RefusesOpening of_disk before refused.disk refused.why

  -- a directory was made, or not
  abbrev pub AnswersCreate : BaseSettings → D
      → Result (Engine D Y F B of_disk of_yard of_file of_build) (OpenRefused D Y) → Type 0
  AnswersCreate settings before (Ok engine) = CreatesDirectory settings before engine
  AnswersCreate settings before (Err refused) = RefusesCreating of_disk before refused.disk refused.why

  -- where the disk told its bytes, at each moment each image shows what one showed before
  abbrev pub OpenKeepsShown : D → Result (Engine D Y F B of_disk of_yard of_file of_build) (OpenRefused D Y) → Type 0
  OpenKeepsShown before result = IsSome (of_disk.seen before)
      → KeepsShown of_disk before (disk_after result)

  -- what is shown until the directory is made
  abbrev pub CreateKeepsShown : BaseSettings → D
      → Result (Engine D Y F B of_disk of_yard of_file of_build) (OpenRefused D Y) → Type 0
  CreateKeepsShown settings before result = KeepsUntilCreated of_disk settings before (disk_after result)

  -- the disk's count of faults hasn't fallen
  abbrev pub OpenCountsFaults : D → Result (Engine D Y F B of_disk of_yard of_file of_build) (OpenRefused D Y) → Type 0
  OpenCountsFaults before result = of_disk.faults before ≤ of_disk.faults (disk_after result)
