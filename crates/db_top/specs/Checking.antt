-- What `check` does with the store of a directory.
use Rattle.std.specs.Prelude.{ℕ, ◌≡◌, ◌⊎◌, ◌≤◌, List, [], ◌∷◌, IfSome, IsSome, codes}
use Rattle.std.specs.FinMap.{len}
use Rattle.std.specs.Fmt.{decimal}
use Rattle.disk_model.specs.Files.{Files}
use Rattle.disk_model.specs.Logs.{Image}
use Rattle.disk_model.specs.declared.disk.Disk
use Rattle.disk_model.specs.declared.world.Store.{Store}
use Rattle.disk_model.specs.declared.yard.Yard
use Rattle.db_top.specs.Statuses.{refused_as}
use Rattle.db_top.specs.declared.status.Status.{Status}
use Rattle.db_top.specs.declared.status.Status.TheVariants as status
use Rattle.doc_engine.specs.EngineState.{files_of}
use Rattle.doc_engine.specs.Opening.{RefusesOpening, begins}
use Rattle.doc_engine.specs.Representing.{KeepsFormat}
use Rattle.doc_engine.specs.declared.refusal.OpenWhy.{OpenWhy}
use Rattle.doc_meaning.specs.History.{Base, History, front, latest}
use Rattle.directory_meaning.specs.Directories.{KeepsShown}
use Rattle.directory_meaning.specs.Shown.{Shows}
use Rattle.transcript.specs.Texts.{line_of}

-- the line of a front, a merge timestamp and a number of live documents; there are no parts yet
abbrev pub summary_text : ℕ → ℕ → ℕ → List ℕ
summary_text front merge live = line_of (codes "ok") (codes "front" ∷ decimal front ∷ codes "merge" ∷ decimal merge
    ∷ codes "parts" ∷ codes "0" ∷ codes "live" ∷ decimal live ∷ [])

-- the line of a history and its merge timestamp: its front, that timestamp, and the number of documents that are live
-- at its front
abbrev pub summary_of : ℕ → History → List ℕ
summary_of merge h = summary_text (front h) merge (len (latest h))

-- the text says what the history holds that logs and files tell, and what the base holds that they show, if they show
-- one
pub record TellsOf (done : List ℕ) (image : Image) (files : Files) : Type 0 where
  pub format : KeepsFormat files image
  pub of_history : done ≡ summary_of format.merge format.history
  pub of_base : (base : Base) → Shows files image base → done ≡ summary_of base.merge (begins base)

module _ {D Y F B : Type 0} (disk : Disk.Ghosts D) (of_yard : Yard.Ghosts Y F B) (done : List ℕ) where
  -- the directory keeps the format of logs and was opened, and the text says what it holds
  pub record Tells (before : Store D Y) (result : Status) : Type 0 where
    pub told : IfSome (disk.seen before.disk) (λ image. IfSome (files_of of_yard before.yard) (TellsOf done image))
    pub ends : result ≡ status.Done

  -- the directory wasn't opened, for this reason
  pub record RefusesToTell (before after : D) (result : Status) : Type 0 where
    pub why : OpenWhy
    pub refuses : RefusesOpening disk before after why
    pub ends : result ≡ refused_as why

  -- a store was opened and told, or not; each image shows what one showed before, and the store's files stay
  pub record Checks (before after : Store D Y) (result : Status) : Type 0 where
    pub checks : Tells before result ⊎ RefusesToTell before.disk after.disk result
    pub keeps : IsSome (disk.seen before.disk)
        → KeepsShown disk before.disk after.disk
    pub yard : after.yard ≡ before.yard
    pub later : disk.faults before.disk ≤ disk.faults after.disk
