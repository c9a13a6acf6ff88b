-- A directory that was made.
use Rattle.std.proofs.Common.{◌≡◌, ◌∙◌, ℕ, refl, sym, ap, subst, subst₂, None, arith}
use Rattle.directory_meaning.proofs.EmptyLemmas.{first_root_is_told}
use Rattle.directory_meaning.specs.Laws.{no_bodies}
use Rattle.directory_meaning.specs.Shown.{only_body}
use Rattle.disk_model.specs.Files.{Files}
use Rattle.disk_model.specs.declared.disk.Disk
use Rattle.disk_model.specs.declared.yard.Build
use Rattle.disk_model.specs.declared.yard.SealedFile
use Rattle.disk_model.specs.declared.yard.Yard
use Rattle.doc_engine.proofs.Begun.{latest_begins}
use Rattle.doc_engine.specs.EngineState.{IsReadStateOf, ReadState, disk_of, journal_of, read_state}
use Rattle.doc_engine.specs.Finding.{BeginsEmpty, found_state}
use Rattle.doc_engine.specs.Opening.{BeginsAt, begins}
use Rattle.doc_engine.specs.Representing.{RepresentsHistory}
use Rattle.doc_engine.specs.declared.engine.Engine.{Engine}
use Rattle.doc_engine.specs.declared.found.Found.{Found}
use Rattle.doc_meaning.specs.History.{empty_base, settings_of}
use Rattle.doc_model.specs.declared.settings.Settings.{Settings}
use Rattle.journal.specs.JournalStates.{current_of}
use Rattle.journal.specs.Opening.{Made}
use Rattle.journal.specs.declared.journal.Journal.{Journal}

-- logs that were made represent the empty base, whatever files are kept
represents_empty : {D : Type 0} (of_disk : Disk.Ghosts D) (settings : Settings) (files : Files) (disk : D)
    (journal : Journal) → Made of_disk settings disk journal
    → RepresentsHistory of_disk files journal disk (begins (empty_base (settings_of settings))) None
represents_empty of_disk settings files disk journal made = record {
  told = begins (empty_base (settings_of settings));
  since = 0;
  kept = only_body 2 made.body;
  more = no_bodies;
  same = refl;
  ordered = omega arith;
  tells = first_root_is_told files settings made.body (current_of journal) made.first (omega (arith, made.current));
  leaves = refl;
  follows = tt;
  represents = made.represents;
  up = made.up;
}

module _ {D Y F B : Type 0} {of_disk : Disk.Ghosts D} {of_yard : Yard.Ghosts Y F B} {of_file : SealedFile.Ghosts F}
    {of_build : Build.Ghosts B F} (settings : Settings) (disk : D) (journal : Journal) (found : Found)
    (nothing : BeginsEmpty journal settings found) (engine : Engine D Y F B of_disk of_yard of_file of_build)
    (disks : disk_of engine ≡ disk) (journals : journal_of engine ≡ found.journal)
    (reads : read_state engine ≡ found_state found) where
  -- an engine that holds nothing is at the empty base
  pub creates : Made of_disk settings disk journal → (files : Files)
      → BeginsAt files (empty_base (settings_of settings)) engine
  creates made files = record {
    is_at = subst (λ (s : ReadState). IsReadStateOf s 0 (begins (empty_base (settings_of settings))))
        (sym (reads ∙ ap found_state nothing)) (record {
          front = omega arith;
          merge = refl;
          settings = refl;
          documents = sym (latest_begins (empty_base (settings_of settings)));
        });
    represents = subst₂ (λ j d. RepresentsHistory of_disk files j d (begins (empty_base (settings_of settings))) None)
        (sym (journals ∙ ap (λ (f : Found). f.journal) nothing)) (sym disks)
        (represents_empty of_disk settings files disk journal made);
  }
