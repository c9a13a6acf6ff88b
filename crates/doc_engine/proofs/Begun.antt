-- An engine that holds what was found.
use Rattle.std.proofs.Common.{◌≡◌, ◌≤◌, ◌∙◌, ℕ, Option, None, Some, IfSome, [], sym, subst, subst₂, arith}
use Rattle.directory_meaning.proofs.EntryLemmas.{from_is_the_same}
use Rattle.directory_meaning.specs.Shown.{shown_from}
use Rattle.disk_model.specs.Files.{Files}
use Rattle.disk_model.specs.Logs.{Image}
use Rattle.disk_model.specs.declared.disk.Disk
use Rattle.disk_model.specs.declared.yard.Build
use Rattle.disk_model.specs.declared.yard.SealedFile
use Rattle.disk_model.specs.declared.yard.Yard
use Rattle.doc_engine.proofs.Opened.{latest_over}
use Rattle.doc_engine.specs.EngineState.{IsAt, IsAtSince, IsReadStateOf, ReadState, disk_of, journal_of, read_state}
use Rattle.doc_engine.specs.Finding.{Finds, found_state}
use Rattle.doc_engine.specs.Opening.{Opens, begins}
use Rattle.doc_engine.specs.Representing.{RepresentsHistory}
use Rattle.doc_engine.specs.declared.engine.Engine.{Engine}
use Rattle.doc_engine.specs.declared.found.Found.{Found}
use Rattle.doc_meaning.specs.History.{Base, History, base_at, front, latest}

-- what holds of each holds of one that is told
pub of_each : {A : Type 0} {P : A → Type 0} (o : Option A) → ((x : A) → P x) → IfSome o P
of_each None each = tt
of_each (Some x) each = each x

-- no sealed files
abbrev pub no_files : Files
no_files number = None

-- the last database of a base
pub latest_begins : (base : Base) → latest (begins base) ≡ base_at base base.front
latest_begins base = latest_over base []

-- what is seen of a history is seen of the base that it shows
state_begins : (seen : ReadState) (low : ℕ) (h : History) → low ≤ front h → IsReadStateOf seen low h
    → IsReadStateOf seen low (begins (shown_from low h))
state_begins seen low h ordered is = record {
  front = omega (arith, is.front);
  merge = is.merge;
  settings = is.settings;
  documents = is.documents
      ∙ sym (latest_begins (shown_from low h) ∙ from_is_the_same low h (front h) ordered (omega arith));
}

module _ {D Y F B : Type 0} {of_disk : Disk.Ghosts D} {of_yard : Yard.Ghosts Y F B} {of_file : SealedFile.Ghosts F}
    {of_build : Build.Ghosts B F} (files : Files) (image : Image) (disk : D) (found : Found)
    (finds : Finds of_disk files image disk found) (engine : Engine D Y F B of_disk of_yard of_file of_build)
    (disks : disk_of engine ≡ disk) (journals : journal_of engine ≡ found.journal)
    (reads : read_state engine ≡ found_state found) where
  -- the engine is at the history that was found
  is_at : IsAtSince engine finds.format.merge finds.format.history
  is_at = subst (λ (s : ReadState). IsReadStateOf s finds.format.merge finds.format.history) (sym reads) finds.state

  -- it is at each base that is shown
  at_base : (base : Base) → finds.format.merge ≤ front finds.format.history
      → base ≡ shown_from finds.format.merge finds.format.history → IsAt engine (begins base)
  at_base base ordered is = subst (λ b. IsAt engine (begins b)) (sym is)
      (state_begins (read_state engine) finds.format.merge finds.format.history ordered is_at)

  -- it is at what was found, and begins at each base that is shown
  pub opens : Opens files image engine
  opens = record {
    format = finds.format;
    is_at = is_at;
    begun = λ base shows.
        let shown = finds.shows base shows in
        record {
          is_at = at_base base shown.0 shown.1;
          represents = subst₂ (λ j d. RepresentsHistory of_disk files j d (begins base) None) (sym journals) (sym disks)
              (finds.represents base shows);
        };
  }
