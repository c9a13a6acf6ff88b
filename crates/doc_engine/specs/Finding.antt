-- What was found of a directory.
use Rattle.std.specs.FinMap.{empty}
use Rattle.std.specs.Prelude.{◌≡◌, ◌≤◌, None}
use Rattle.directory_meaning.specs.Shown.{Shows, shown_from}
use Rattle.disk_model.specs.Files.{Files}
use Rattle.disk_model.specs.Logs.{Image}
use Rattle.disk_model.specs.declared.disk.Disk
use Rattle.doc_engine.specs.EngineState.{IsReadStateOf, ReadState}
use Rattle.doc_engine.specs.Opening.{begins, longest_of}
use Rattle.doc_engine.specs.Representing.{KeepsFormat, RepresentsHistory}
use Rattle.doc_engine.specs.declared.found.Found.{Found}
use Rattle.doc_meaning.specs.History.{Base, front, settings_of}
use Rattle.doc_model.specs.declared.settings.Settings.{Settings}
use Rattle.frame_log.specs.LogStates.{end_of}
use Rattle.journal.specs.JournalStates.{current_log}
use Rattle.journal.specs.declared.journal.Journal.{Journal}

-- what a reader sees of what was found
abbrev pub found_state : Found → ReadState
found_state found = record {
  front = found.restored.front;
  merge = found.restored.merge;
  settings = settings_of found.settings;
  documents = found.restored.live;
}

-- nothing was found but these logs and settings
abbrev pub BeginsEmpty : Journal → Settings → Found → Type 0
BeginsEmpty journal settings found =
    found ≡ record { journal = journal; settings = settings; restored = record { front = 0; merge = 0; live = empty } }

module _ {D : Type 0} (of_disk : Disk.Ghosts D) where
  -- in logs that keep their format this was found of the history that they tell with these files. Where the image shows
  -- a base, that is what a reader sees of it, and the logs represent it. The journal that goes on ends within the
  -- journals of the image
  pub record Finds (files : Files) (image : Image) (disk : D) (found : Found) : Type 0 where
    pub format : KeepsFormat files image
    pub state : IsReadStateOf (found_state found) format.merge format.history
    pub shows : (base : Base) → Shows files image base
        → (format.merge ≤ front format.history) × (base ≡ shown_from format.merge format.history)
    pub represents : (base : Base) → Shows files image base
        → RepresentsHistory of_disk files found.journal disk (begins base) None
    pub longest : end_of (current_log found.journal) ≤ longest_of image
