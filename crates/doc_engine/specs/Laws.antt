-- Laws of what an engine's logs represent.
use Rattle.std.specs.Prelude.{◌≢◌, Option, Some}
use Rattle.directory_meaning.specs.Shown.{Shows}
use Rattle.disk_model.specs.Files.{Files}
use Rattle.disk_model.specs.Logs.{Image}
use Rattle.disk_model.specs.declared.disk.Disk
use Rattle.doc_engine.specs.Representing.{ShowsWith, RepresentsHistory}
use Rattle.doc_meaning.specs.History.{History, shown}
use Rattle.doc_model.specs.declared.entry.Entry as model
use Rattle.journal.specs.declared.broken_off.BrokenOff.TheVariants.{Entry}
use Rattle.journal.specs.declared.journal.Journal.{Journal}

-- with the files kept, each image that the disk may leave shows the history that the logs represent, or it with the
-- pending entry
abbrev pub RepresentedIsShown : {D : Type 0} → Disk.Ghosts D → Type 0
RepresentedIsShown {D} of_disk = (files : Files) (journal : Journal) (disk : D) (h : History)
    (pending : Option model.Entry) (image : Image) → RepresentsHistory of_disk files journal disk h pending
    → of_disk.may_leave disk image → ShowsWith files h pending image

-- where no entry was broken off behind its gate, each image shows that history alone
abbrev pub UntouchedIsShown : {D : Type 0} → Disk.Ghosts D → Type 0
UntouchedIsShown {D} of_disk = (files : Files) (journal : Journal) (disk : D) (h : History)
    (pending : Option model.Entry) (image : Image) → RepresentsHistory of_disk files journal disk h pending
    → journal.broken_off ≢ Some Entry → of_disk.may_leave disk image → Shows files image (shown h)
