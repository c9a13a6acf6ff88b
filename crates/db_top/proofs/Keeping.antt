-- What a store keeps of the turns of an engine that was opened on it.
use Rattle.std.proofs.Common.{◌≡◌, ◌≤◌, ℕ, Bool, List, Option, Some, None, IfSome, ⊎_elim, inl, inr, arith}
use Rattle.db_top.specs.Serving.{HasTurns, KeepsTurns}
use Rattle.disk_model.specs.Causes.{Rose}
use Rattle.disk_model.specs.Files.{Files}
use Rattle.disk_model.specs.declared.disk.Disk
use Rattle.disk_model.specs.declared.world.Store.{Store}
use Rattle.disk_model.specs.declared.yard.Build
use Rattle.disk_model.specs.declared.yard.SealedFile
use Rattle.disk_model.specs.declared.yard.Yard
use Rattle.doc_engine.proofs.Representations.{represented_is_shown}
use Rattle.doc_engine.specs.EngineState.{disk_of, files_of, journal_of, store_of, yard_of}
use Rattle.doc_engine.specs.Opening.{begins}
use Rattle.doc_engine.specs.Representing.{RepresentsHistory}
use Rattle.doc_engine.specs.declared.engine.Engine.{Engine}
use Rattle.doc_meaning.specs.History.{Base}
use Rattle.engine_session.specs.Attended.{AreCounted, Attended, Keeps}
use Rattle.engine_session.specs.Pending.{pending_of}
use Rattle.directory_meaning.specs.Directories.{KeepsShown}
use Rattle.transcript.specs.Transcript.{Session}
use Rattle.transcript.specs.Turns.{Turn, history_of}
use Rattle.transcript.specs.declared.session_end.SessionEnd.{SessionEnd}

-- the session of the one author, which has these bytes; its port isn't used
abbrev pub session_of : List ℕ → List ℕ → Bool → SessionEnd → Session
session_of input output over how =
    record { author = 0; input = input; over = over; output = output; how = how; faults = 0; reads = 0 }

-- an earlier count of the disk serves as well
pub counted_earlier : (earlier before now : ℕ) (list : List Turn) → earlier ≤ before → AreCounted before now list
    → AreCounted earlier now list
counted_earlier earlier before now list le counts k d lt = sooner _ (counts k d lt)
  where
    sooner : (o : Option ℕ) → IfSome o (λ count. Rose before count × (count ≤ now))
        → IfSome o (λ count. Rose earlier count × (count ≤ now))
    sooner None told = tt
    sooner (Some count) told = (omega (arith, told.0, le), told.1)

module _ {D Y F B : Type 0} {of_disk : Disk.Ghosts D} {of_yard : Yard.Ghosts Y F B} {of_file : SealedFile.Ghosts F}
    {of_build : Build.Ghosts B F} (files : Files) (before : Store D Y)
    (opened closed : Engine D Y F B of_disk of_yard of_file of_build)
    (opening : KeepsShown of_disk before.disk (disk_of opened)) where
  -- each image since the disk was opened shows what one showed before, or what the turns made
  pub keeps_turns : (base : Base) (turns : List Turn) → Keeps files opened closed base turns
      → KeepsTurns of_disk of_yard files base turns before (store_of closed)
  keeps_turns base turns keeps = record {
    told = keeps.represents.represents.0.0.told;
    now = λ c may. represented_is_shown of_disk files (journal_of closed) (disk_of closed)
        (history_of base turns) (pending_of turns) c keeps.represents may;
    always = λ c left. ⊎_elim
        (λ then. inl ((opening files).each c then))
        (λ shows. inr shows)
        (keeps.since.earlier (of_disk.moment before.disk) c (opening files).later left);
    opened = store_of opened;
    opening = opening;
    goes_on = keeps.crash;
  }

  -- what was attended with the engine is a session over turns that the store keeps
  pub has_turns : (base : Base) (longest : ℕ) (input output : List ℕ) (over : Bool) (how : SessionEnd)
      → of_disk.faults before.disk ≤ of_disk.faults (disk_of opened)
      → files_of of_yard (yard_of opened) ≡ Some files
      → RepresentsHistory of_disk files (journal_of opened) (disk_of opened) (begins base) None
      → Attended opened closed base longest input output over how
      → HasTurns of_disk of_yard files base longest before (store_of closed) (session_of input output over how)
  has_turns base longest input output over how later held represents is = record {
    turns = is.turns;
    own = is.takes.own;
    legal = is.takes.legal;
    agrees = is.agrees;
    counted = counted_earlier _ _ _ is.turns later is.takes.counts;
    keeps = keeps_turns base is.turns (is.takes.keeps files held represents);
  }
