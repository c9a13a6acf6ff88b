-- Two neighbouring logs of a disk change, and no other.
use Rattle.std.specs.Prelude.{◌≡◌, ◌≢◌, ℕ, ◌+◌}
use Rattle.disk_model.specs.Changes.{Becomes}
use Rattle.disk_model.specs.Logs.{Image, CrashImages}
use Rattle.disk_model.specs.Stretches.{Since}
use Rattle.disk_model.specs.declared.disk.Disk
use Rattle.log_pair.specs.PairStates.{first_of, AreWithin}
use Rattle.log_pair.specs.declared.pair.LogPair.{LogPair}

-- the file is neither this one nor the next
abbrev pub IsApart : ℕ → ℕ → Type 0
IsApart first file = (file ≢ first) × (file ≢ first + 1)

-- nothing changed but this log and the next
pub record OnlyTwo (first : ℕ) (old new : Image) : Type 0 where
  pub others : (other : ℕ) → IsApart first other → new other ≡ old other

-- the image differs at this log and the next alone from one that a crash might have left
abbrev pub OnlyThese : CrashImages → ℕ → CrashImages
OnlyThese may_leave first image = (before : Image) × may_leave before × OnlyTwo first before image

module _ {D : Type 0} (of_disk : Disk.Ghosts D) where
  -- nothing but this log and the next changed, at any moment
  pub record SparesOtherPairs (first : ℕ) (old new : D) : Type 0 where
    pub reads : Becomes (OnlyTwo first) (of_disk.seen old) (of_disk.seen new)
    pub images : Since of_disk old new (OnlyThese (of_disk.may_leave old) first)

  -- nothing but the logs of this pair changed, and their last gates are within their files
  pub record KeepsToPair (pair : LogPair) (old new : D) : Type 0 where
    pub others : SparesOtherPairs (first_of pair) old new
    pub within : AreWithin pair (of_disk.seen new)
