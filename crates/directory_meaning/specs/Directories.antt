-- What a directory shows before a call and after it.
use Rattle.std.specs.Prelude.{ℕ, ◌≡◌, ◌⊎◌, ◌↔◌, List, []}
use Rattle.disk_model.specs.declared.disk.Disk
use Rattle.disk_model.specs.Files.{Files}
use Rattle.disk_model.specs.Logs.{Image}
use Rattle.disk_model.specs.Stretches.{Since}
use Rattle.doc_meaning.specs.History.{Base, BaseSettings, empty_base}
use Rattle.frame_log.specs.Frames.{HasFrames}
use Rattle.directory_meaning.specs.Damages.{AreBadRootLogs, IsRootLog}
use Rattle.directory_meaning.specs.Shown.{Shows}

-- neither root log has a frame
abbrev pub HasNoRoot : Image → Type 0
HasNoRoot image = HasFrames [] (image 2) × HasFrames [] (image 3)

-- a root log has one
pub record HasRoot (image : Image) : Type 0 where
  pub file : ℕ
  pub bodies : List (List ℕ)
  pub root_log : (file ≡ 2) ⊎ (file ≡ 3)
  pub frames : HasFrames bodies (image file)
  pub some : bodies ≡ [] → ⊥

-- both root logs are valid, and one has a root
abbrev pub IsTaken : Image → Type 0
IsTaken image = IsRootLog (image 2) × IsRootLog (image 3) × HasRoot image

-- the root logs have a root, or break a rule
abbrev pub IsUsed : Image → Type 0
IsUsed image = IsTaken image ⊎ ((file : ℕ) × (place : ℕ) × AreBadRootLogs image file place)

-- with these files two images show the same base, or both show none
abbrev pub ShowsAs : Files → Image → Image → Type 0
ShowsAs files old new = (base : Base) → Shows files new base ↔ Shows files old base

module _ {D : Type 0} (of_disk : Disk.Ghosts D) where
  -- whatever files are kept, at each moment each image shows what one at the start showed
  abbrev pub KeepsShown : D → D → Type 0
  KeepsShown old new = (files : Files) → Since of_disk old new (λ c.
      (d : Image) × of_disk.may_leave old d × ShowsAs files d c)

  -- whatever files are kept, at each moment each image shows what one at the start showed, or nothing, or the empty
  -- base of these settings
  abbrev pub MakesShown : BaseSettings → D → D → Type 0
  MakesShown settings old new = (files : Files) → Since of_disk old new (λ c.
      ((d : Image) × of_disk.may_leave old d × ShowsAs files d c)
      ⊎ (((base : Base) → Shows files c base → ⊥) ⊎ Shows files c (empty_base settings)))
