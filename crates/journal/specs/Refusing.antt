-- Why a directory's logs weren't read or made.
use Rattle.std.specs.Prelude.{ℕ, ◌≡◌, ◌⊎◌, ⊤}
use Rattle.disk_model.specs.Logs.{Image}
use Rattle.disk_model.specs.declared.file_name.FileName.{FileName}
use Rattle.disk_model.specs.declared.file_name.FileName.TheVariants.{Log, Sealed}
use Rattle.journal.specs.declared.refusal.JournalRefusal.{JournalRefusal}
use Rattle.journal.specs.declared.refusal.JournalRefusal.TheVariants as refusal
use Rattle.journal.specs.declared.refusal.MakeRefusal.{MakeRefusal}
use Rattle.journal.specs.declared.refusal.MakeRefusal.TheVariants as make
use Rattle.directory_reading.specs.declared.unread.LogBad.{LogBad}
use Rattle.directory_reading.specs.declared.unread.LogBad.TheVariants as unread
use Rattle.directory_meaning.specs.Damages.{AreBadRootLogs, Damages, IsEntryLog, JournalBreaks, NamesFilesSoFar}
use Rattle.directory_meaning.specs.Directories.{HasNoRoot, IsTaken}

-- the bytes of this file break a rule at this place; or, for as long as no files are written, the newest root names files
abbrev pub AreDamaged : Image → FileName → ℕ → Type 0
AreDamaged image (Log file) place = Damages image file place ⊎ NamesFilesSoFar image file place
AreDamaged image (Sealed number) place = ⊥

-- the bytes of this root log break a rule at this place
abbrev pub AreDamagedRoots : Image → FileName → ℕ → Type 0
AreDamagedRoots image (Log file) place = AreBadRootLogs image file place
AreDamagedRoots image (Sealed number) place = ⊥

-- the bytes of this journal break a rule at this place
abbrev pub AreDamagedJournals : Image → FileName → ℕ → Type 0
AreDamagedJournals image (Log file) place = ((file ≡ 0) × JournalBreaks (image 0) place)
    ⊎ ((file ≡ 1) × IsEntryLog (image 0) × JournalBreaks (image 1) place)
AreDamagedJournals image (Sealed number) place = ⊥

-- why the root logs weren't read, and why the journals weren't
abbrev pub AreUnreadRoots : Image → LogBad → Type 0
AreUnreadRoots image (unread.Damaged file place) = AreDamagedRoots image file place
AreUnreadRoots image unread.Fault = ⊤
AreUnreadRoots image unread.Memory = ⊤

abbrev pub AreUnreadJournals : Image → LogBad → Type 0
AreUnreadJournals image (unread.Damaged file place) = AreDamagedJournals image file place
AreUnreadJournals image unread.Fault = ⊤
AreUnreadJournals image unread.Memory = ⊤

-- why the logs weren't read
abbrev pub NotScanned : Image → JournalRefusal → Type 0
NotScanned image refusal.NotThere = HasNoRoot image
NotScanned image (refusal.Damaged file place) = AreDamaged image file place
NotScanned image refusal.Fault = ⊤
NotScanned image refusal.Memory = ⊤

-- why a directory's logs weren't made
abbrev pub NotMade : Image → MakeRefusal → Type 0
NotMade image make.AlreadyThere = IsTaken image
NotMade image (make.Damaged file place) = AreDamagedRoots image file place
NotMade image make.Fault = ⊤
NotMade image make.Memory = ⊤
