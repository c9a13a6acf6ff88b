-- A store in which a database was made, or not.
use Rattle.std.proofs.Common.{◌≡◌, ◌≤◌, IfSome, Option, Some, None, inl, inr, refl, subst}
use Rattle.db_top.specs.Making.{HasMade, Makes}
use Rattle.db_top.specs.Statuses.{refused_as}
use Rattle.db_top.specs.declared.status.Status.{Status}
use Rattle.db_top.specs.declared.status.Status.TheVariants as status
use Rattle.disk_model.specs.Files.{Files}
use Rattle.disk_model.specs.Logs.{Image}
use Rattle.disk_model.specs.declared.disk.Disk
use Rattle.disk_model.specs.declared.world.Store.{Store}
use Rattle.disk_model.specs.declared.yard.Build
use Rattle.disk_model.specs.declared.yard.SealedFile
use Rattle.disk_model.specs.declared.yard.Yard
use Rattle.doc_engine.proofs.Representations.{represented_is_shown}
use Rattle.doc_engine.specs.EngineState.{disk_of, journal_of}
use Rattle.doc_engine.specs.Opening.{BeginsAt, CreatesDirectory, KeepsUntilCreated, RefusesCreating, begins}
use Rattle.doc_engine.specs.declared.engine.Engine.{Engine}
use Rattle.doc_engine.specs.declared.refusal.OpenWhy.{OpenWhy}
use Rattle.doc_meaning.specs.History.{BaseSettings, empty_base, shown}
use Rattle.directory_meaning.specs.Directories.{HasNoRoot}
use Rattle.directory_meaning.specs.Shown.{Shows}

-- what is seen of the history that begins with the empty base is that base
empty_shown : (settings : BaseSettings) → shown (begins (empty_base settings)) ≡ empty_base settings
empty_shown settings = refl

module _ {D Y F B : Type 0} {of_disk : Disk.Ghosts D} {of_yard : Yard.Ghosts Y F B} {of_file : SealedFile.Ghosts F}
    {of_build : Build.Ghosts B F} (settings : BaseSettings)
    (engine : Engine D Y F B of_disk of_yard of_file of_build) where
  -- the logs of an engine that was made show the empty base, whatever files are kept
  has_made : (image : Image) → HasNoRoot image → ((files : Files) → BeginsAt files (empty_base settings) engine)
      → HasMade of_disk settings image (disk_of engine)
  has_made image none made = record {
    none = none;
    told = (made (λ number. None)).represents.represents.0.0.told;
    shows = λ files c may. subst (Shows files c) (empty_shown settings)
        (represented_is_shown of_disk files (journal_of engine) (disk_of engine) (begins (empty_base settings)) None c
        (made files).represents may);
  }

  -- where it is told
  made_of : (seen : Option Image) → IfSome seen (λ image. HasNoRoot image
      × ((files : Files) → BeginsAt files (empty_base settings) engine))
      → IfSome seen (λ image. HasMade of_disk settings image (disk_of engine))
  made_of None told = tt
  made_of (Some image) (none, made) = has_made image none made

  -- a database was made, and its engine closed
  pub makes_created : (before after : Store D Y) → CreatesDirectory settings before.disk engine
      → KeepsUntilCreated of_disk settings before.disk (disk_of engine)
      → of_disk.faults before.disk ≤ of_disk.faults (disk_of engine)
      → disk_of engine ≡ after.disk → after.yard ≡ before.yard
      → Makes of_disk settings before after status.Done
  makes_created before after created keeps later at yard = record {
    makes = inl (
      refl,
      subst (λ (d : D). IfSome (of_disk.seen before.disk) (λ image. HasMade of_disk settings image d)) at
          (made_of (of_disk.seen before.disk) created.creates),
    );
    keeps = subst (KeepsUntilCreated of_disk settings before.disk) at keeps;
    yard = yard;
    later = subst (λ (d : D). of_disk.faults before.disk ≤ of_disk.faults d) at later;
  }

-- a store in which none was made comes back
pub makes_refused : {D Y : Type 0} (disk : Disk.Ghosts D) (settings : BaseSettings) (before after : Store D Y)
    (why : OpenWhy) (result : Status) → RefusesCreating disk before.disk after.disk why
    → KeepsUntilCreated disk settings before.disk after.disk
    → disk.faults before.disk ≤ disk.faults after.disk → after.yard ≡ before.yard → result ≡ refused_as why
    → Makes disk settings before after result
makes_refused disk settings before after why result refuses keeps later yard ends = record {
  makes = inr (record { why = why; refuses = refuses; ends = ends });
  keeps = keeps;
  yard = yard;
  later = later;
}
