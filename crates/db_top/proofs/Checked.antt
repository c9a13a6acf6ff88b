-- A store that was opened and told, or not.
use Rattle.std.proofs.Common.{◌≡◌, ◌≤◌, ℕ, List, IfSome, IsSome, Option, Some, None, inl, inr, refl, subst}
use Rattle.db_top.specs.Checking.{Checks, TellsOf, summary_of}
use Rattle.db_top.specs.Statuses.{refused_as}
use Rattle.db_top.specs.declared.status.Status.{Status}
use Rattle.db_top.specs.declared.status.Status.TheVariants as status
use Rattle.disk_model.specs.Files.{Files}
use Rattle.disk_model.specs.Logs.{Image}
use Rattle.disk_model.specs.declared.disk.Disk
use Rattle.disk_model.specs.declared.world.Store.{Store}
use Rattle.disk_model.specs.declared.yard.Build
use Rattle.disk_model.specs.declared.yard.SealedFile
use Rattle.disk_model.specs.declared.yard.Yard
use Rattle.doc_engine.specs.EngineState.{IsAtSince, disk_of, files_of, yard_of}
use Rattle.doc_engine.specs.Opening.{OpensDirectory, Opens, RefusesOpening, begins}
use Rattle.doc_engine.specs.declared.engine.Engine.{Engine}
use Rattle.doc_engine.specs.declared.refusal.OpenWhy.{OpenWhy}
use Rattle.doc_meaning.specs.History.{History}
use Rattle.directory_meaning.specs.Directories.{KeepsShown}

module _ {D Y F B : Type 0} {of_disk : Disk.Ghosts D} {of_yard : Yard.Ghosts Y F B} {of_file : SealedFile.Ghosts F}
    {of_build : Build.Ghosts B F} (engine : Engine D Y F B of_disk of_yard of_file of_build) (done : List ℕ)
    (tells : (merge : ℕ) (h : History) → IsAtSince engine merge h → done ≡ summary_of merge h) where
  -- what the engine is at is told of the logs and files that it was opened at
  told_of : (seen : Option Image) (held : Option Files)
      → IfSome seen (λ image. IfSome held (λ files. Opens files image engine))
      → IfSome seen (λ image. IfSome held (TellsOf done image))
  told_of None held opens = tt
  told_of (Some image) None opens = tt
  told_of (Some image) (Some files) opens = record {
    format = opens.format;
    of_history = tells opens.format.merge opens.format.history opens.is_at;
    of_base = λ base shows. tells base.merge (begins base) (opens.begun base shows).is_at;
  }

  -- a store was opened and told, and its engine closed
  pub checks_opened : (before after : Store D Y) → OpensDirectory before.disk engine
      → (IsSome (of_disk.seen before.disk) → KeepsShown of_disk before.disk (disk_of engine))
      → yard_of engine ≡ before.yard → of_disk.faults before.disk ≤ of_disk.faults (disk_of engine)
      → disk_of engine ≡ after.disk → after.yard ≡ before.yard
      → Checks of_disk of_yard done before after status.Done
  checks_opened before after opens shown held later at yard = record {
    checks = inl (record {
      told = subst (λ (y : Y). IfSome (of_disk.seen before.disk) (λ image.
          IfSome (files_of of_yard y) (TellsOf done image))) held
          (told_of (of_disk.seen before.disk) (files_of of_yard (yard_of engine)) opens.opens);
      ends = refl;
    });
    keeps = subst (λ (d : D). IsSome (of_disk.seen before.disk) → KeepsShown of_disk before.disk d) at shown;
    yard = yard;
    later = subst (λ (d : D). of_disk.faults before.disk ≤ of_disk.faults d) at later;
  }

-- a store that wasn't opened comes back
pub checks_refused : {D Y F B : Type 0} (disk : Disk.Ghosts D) (of_yard : Yard.Ghosts Y F B) (before after : Store D Y)
    (why : OpenWhy) (done : List ℕ) (result : Status) → RefusesOpening disk before.disk after.disk why
    → (IsSome (disk.seen before.disk)
    → KeepsShown disk before.disk after.disk)
    → disk.faults before.disk ≤ disk.faults after.disk → after.yard ≡ before.yard → result ≡ refused_as why
    → Checks disk of_yard done before after result
checks_refused disk of_yard before after why done result refuses shown later yard ends = record {
  checks = inr (record { why = why; refuses = refuses; ends = ends });
  keeps = shown;
  yard = yard;
  later = later;
}
