-- What `init` does with the store of a directory.
use Rattle.std.specs.Prelude.{◌≡◌, ◌⊎◌, ◌≤◌, IfSome, IsSome}
use Rattle.disk_model.specs.Files.{Files}
use Rattle.disk_model.specs.Logs.{Image}
use Rattle.disk_model.specs.declared.disk.Disk
use Rattle.disk_model.specs.declared.world.Store.{Store}
use Rattle.db_top.specs.Statuses.{refused_as}
use Rattle.db_top.specs.declared.status.Status.{Status}
use Rattle.db_top.specs.declared.status.Status.TheVariants as status
use Rattle.doc_engine.specs.Opening.{KeepsUntilCreated, RefusesCreating}
use Rattle.doc_engine.specs.declared.refusal.OpenWhy.{OpenWhy}
use Rattle.doc_meaning.specs.History.{BaseSettings, empty_base}
use Rattle.directory_meaning.specs.Directories.{HasNoRoot}
use Rattle.directory_meaning.specs.Shown.{Shows}

module _ {D : Type 0} (disk : Disk.Ghosts D) (settings : BaseSettings) where
  -- a directory without a root was made, and whatever files are kept, each image shows the empty base of the settings
  pub record HasMade (image : Image) (after : D) : Type 0 where
    pub none : HasNoRoot image
    pub told : IsSome (disk.seen after)
    pub shows : (files : Files) (c : Image) → disk.may_leave after c → Shows files c (empty_base settings)

  -- a directory wasn't made, for this reason
  pub record RefusesToMake (before after : D) (result : Status) : Type 0 where
    pub why : OpenWhy
    pub refuses : RefusesCreating disk before after why
    pub ends : result ≡ refused_as why

  -- a directory was made or refused; its files stay
  pub record Makes {Y : Type 0} (before after : Store D Y) (result : Status) : Type 0 where
    pub makes : ((result ≡ status.Done) × IfSome (disk.seen before.disk) (λ image. HasMade image after.disk))
        ⊎ RefusesToMake before.disk after.disk result
    pub keeps : KeepsUntilCreated disk settings before.disk after.disk
    pub yard : after.yard ≡ before.yard
    pub later : disk.faults before.disk ≤ disk.faults after.disk
