-- What happened to a disk from one state to a later one.
use Rattle.std.specs.Prelude.{◌≡◌, ℕ, List}
use Rattle.disk_model.specs.Changes.{Any, OnlyAt, Becomes}
use Rattle.disk_model.specs.Logs.{Image, CrashImages}
use Rattle.disk_model.specs.Moments.{TakesTime, Throughout}
use Rattle.disk_model.specs.declared.disk.Disk

-- this log comes by a change from that log of an image that a crash might have left
abbrev pub Changed : CrashImages → ℕ → (List ℕ → List ℕ → Type 0) → CrashImages
Changed may_leave file change c = (d : Image) × may_leave d × change (d file) (c file)

-- the image differs at this log alone from one that a crash might have left
abbrev pub OnlyThis : CrashImages → ℕ → CrashImages
OnlyThis may_leave file c = (d : Image) × may_leave d × OnlyAt {A = List ℕ} file Any d c

-- at each moment from the old disk to the new one a crash leaves an image with P
abbrev pub Since : {D : Type 0} → Disk.Ghosts D → D → D → CrashImages → Type 0
Since of_disk old new P =
    Throughout (of_disk.moment old) (of_disk.moment new) (of_disk.left_since old) (of_disk.left_since new) P

-- the new disk is the old one after one call
abbrev pub IsAfterCall : {D : Type 0} → Disk.Ghosts D → D → D → Type 0
IsAfterCall of_disk old new = TakesTime of_disk.moment of_disk.left_since of_disk.may_leave old new

module _ {D : Type 0} (of_disk : Disk.Ghosts D) where
  -- nothing but this log changed, at any moment
  pub record SparesOthers (file : ℕ) (old new : D) : Type 0 where
    pub reads : Becomes (OnlyAt file Any) (of_disk.seen old) (of_disk.seen new)
    pub images : Since of_disk old new (OnlyThis (of_disk.may_leave old) file)

  -- the disk was only read: nothing new may be left, at any moment
  pub record OnlyRead (old new : D) : Type 0 where
    pub same : of_disk.seen new ≡ of_disk.seen old
    pub fewer : (c : Image) → of_disk.may_leave new c → of_disk.may_leave old c
    pub images : Since of_disk old new (of_disk.may_leave old)
