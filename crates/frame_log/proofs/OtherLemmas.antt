-- What a call on one log leaves of the others.
use Rattle.std.proofs.Common.{◌≢◌, ◌≤◌, sym, subst, ℕ, List, Option, Some, None, IfSome}
use Rattle.disk_model.specs.Changes.{Any, OnlyAt, Becomes}
use Rattle.disk_model.specs.Logs.{Image, CrashImages}
use Rattle.frame_log.specs.Frames.{MayHave}
use Rattle.frame_log.specs.LogStates.{file_of, Leaves, Represents}
use Rattle.disk_model.specs.Stretches.{SparesOthers, OnlyThis, Since}
use Rattle.disk_model.specs.declared.disk.Disk
use Rattle.frame_log.specs.declared.log.Log.{Log}
use Rattle.frame_log.proofs.Stretches.{throughout_weaker, throughout_both}
use Rattle.frame_log.proofs.Changes.{told_after}

-- what each image has of another log, each image of which this log alone changed has too
pub other_has : (P : List ℕ → Type 0) (old : CrashImages) (file other : ℕ) → other ≢ file →
    ((d : Image) → old d → P (d other))
    → (c : Image) → OnlyThis old file c → P (c other)
other_has P old file other apart has c (d, was, only) = subst P (sym (only.others other apart)) (has d was)

pub becomes_other : (P : List ℕ → Type 0) (file other : ℕ) (old new : Option Image) → other ≢ file → Becomes
    (OnlyAt file Any) old new
    → IfSome old (λ image. P (image other)) → IfSome new (λ image. P (image other))
becomes_other P file other None None apart is has = tt
becomes_other P file other None (Some b) apart is has = absurd (cc)
becomes_other P file other (Some a) None apart is has = absurd is
becomes_other P file other (Some a) (Some b) apart is has = subst P (sym (is.others other apart)) has

module _ {D : Type 0} (of_disk : Disk.Ghosts D)
    (file : ℕ) (log : Log) (old new : D) (apart : file_of log ≢ file)
    (spares : SparesOthers of_disk file old new) where
  pub other_represents : (kept more : List (List ℕ))
      → ((t : ℕ) (c : Image) → t ≤ of_disk.moment new → of_disk.may_leave new c →
      of_disk.left_since new t c)
      → Represents of_disk log old kept more → Represents of_disk log new kept more
  other_represents kept more counts represents = record {
    told = told_after file Any (of_disk.seen old) (of_disk.seen new) spares.reads represents.told;
    at_end = represents.at_end;
    images = λ c left. other_has (Leaves log.state kept more) (of_disk.may_leave old) file log.file apart
        represents.images c
        (spares.images.each c (counts (of_disk.moment old) c spares.images.later left));
  }

  pub other_left : (kept more : List (List ℕ)) → Represents of_disk log old kept more
      → Since of_disk old new
      (λ c. Leaves log.state kept more (c log.file))
  other_left kept more represents = throughout_weaker _ _ _ _ (OnlyThis (of_disk.may_leave old) file)
      (λ c. Leaves log.state kept more (c log.file)) spares.images
      (other_has (Leaves log.state kept more) (of_disk.may_leave old) file log.file apart represents.images)

  pub both_left : (kept more held rest : List (List ℕ)) → Represents of_disk log old held rest
      → Since of_disk old new (λ c. MayHave kept more (c file))
      → Since of_disk old new
      (λ c. MayHave kept more (c file) × Leaves log.state held rest (c log.file))
  both_left kept more held rest represents has =
      throughout_both _ _ _ _ (λ c. MayHave kept more (c file)) (λ c. Leaves log.state held rest (c log.file)) has
      (other_left held rest represents)
