-- An engine whose live documents are the same is the same.
use Rattle.std.proofs.Common.{◌≡◌, ◌<◌, ◌+◌, ◌^◌, ℕ, None, Some, sym, subst, Result, Ok, Err, IfErr}
use Rattle.std.proofs.Math.Logic.{∥∥₁_prop}
use Rattle.std.proofs.Props.{props}
use Rattle.disk_model.specs.declared.disk.Disk
use Rattle.disk_model.specs.declared.yard.Build
use Rattle.disk_model.specs.declared.yard.SealedFile
use Rattle.disk_model.specs.declared.yard.Yard
use Rattle.doc_engine.specs.Created.{CreatedBy}
use Rattle.doc_engine.specs.Calls.{UnlessFault}
use Rattle.doc_engine.specs.declared.engine.Engine.{Engine}
use Rattle.doc_engine.specs.declared.refusal.CommitRefusal.{CommitRefusal}
use Rattle.doc_engine.specs.declared.refusal.CommitRefusal.TheVariants as refusal
use Rattle.doc_meaning.specs.History.{Database}
use Rattle.journal.specs.JournalStates.{AreUp, AreWithin}
use Rattle.journal.specs.declared.broken_off.BrokenOff.TheVariants.{Entry}

unless_fault : {Same : Type 0} (why : CommitRefusal) → Same → UnlessFault why Same
unless_fault (refusal.Down faults) same = same
unless_fault (refusal.Twice uri) same = same
unless_fault (refusal.Conflict uri found front) same = same
unless_fault (refusal.Spent front end) same = same
unless_fault refusal.Fault same = tt
unless_fault refusal.Memory same = same

-- where all is as before, that holds after each refusal
pub if_unchanged : {Same : Type 0} (result : Result ℕ CommitRefusal) → Same → IfErr result (λ why. UnlessFault why Same)
if_unchanged (Ok at) same = tt
if_unchanged (Err why) same = unless_fault why same

module _ {D Y F B : Type 0} {of_disk : Disk.Ghosts D} {of_yard : Yard.Ghosts Y F B} {of_file : SealedFile.Ghosts F}
    {of_build : Build.Ghosts B F} (engine : Engine D Y F B of_disk of_yard of_file of_build) where
  stamped : (within : AreWithin engine.journal (of_disk.seen engine.disk))
      (up : ∥ (engine.down ≡ None → AreUp engine.journal) ∥₁)
      (early : engine.journal.broken_off ≡ Some Entry → engine.front + 1 < 2 ^ 64)
      (stamps : CreatedBy engine.front engine.live)
      → record engine { within = within; up = up; early = early; stamps = stamps } ≡ engine
  stamped within up early stamps =
      let inside : IsProp (AreWithin engine.journal (of_disk.seen engine.disk)) = hlevel props in
      let small : IsProp (engine.journal.broken_off ≡ Some Entry → engine.front + 1 < 2 ^ 64) = hlevel props in
      let created : IsProp (CreatedBy engine.front engine.live) = hlevel props in
      λ i. record engine {
        within = inside within engine.within i;
        up = ∥∥₁_prop up engine.up i;
        early = small early engine.early i;
        stamps = created stamps engine.stamps i;
      }

  pub unchanged : (live : Database) → live ≡ engine.live
      → (within : AreWithin engine.journal (of_disk.seen engine.disk))
      (up : ∥ (engine.down ≡ None → AreUp engine.journal) ∥₁)
      (early : engine.journal.broken_off ≡ Some Entry → engine.front + 1 < 2 ^ 64)
      (stamps : CreatedBy engine.front live)
      → record engine { live = live; within = within; up = up; early = early; stamps = stamps } ≡ engine
  unchanged live same within up early =
      subst (λ (x : Database). (stamps : CreatedBy engine.front x)
      → record engine { live = x; within = within; up = up; early = early; stamps = stamps } ≡ engine) (sym same)
      (stamped within up early)
