-- Why logs weren't read.
use Rattle.std.specs.Prelude.{ℕ}
use Rattle.disk_model.specs.declared.file_name.FileName.TheVariants.{Log}
use Rattle.frame_log.specs.declared.refusal.ScanRefusal.{ScanRefusal}
use Rattle.frame_log.specs.declared.refusal.ScanRefusal.TheVariants as scan
use Rattle.journal.specs.declared.refusal.JournalRefusal.{JournalRefusal}
use Rattle.journal.specs.declared.refusal.JournalRefusal.TheVariants as journal
use Rattle.journal.specs.declared.refusal.MakeRefusal.{MakeRefusal}
use Rattle.journal.specs.declared.refusal.MakeRefusal.TheVariants as make
use Rattle.directory_reading.specs.declared.unread.LogBad.{LogBad}
use Rattle.directory_reading.specs.declared.unread.LogBad.TheVariants as read

-- the refusal of a scan of this log
abbrev pub of_scan : ℕ → ScanRefusal → LogBad
of_scan file scan.Fault = read.Fault
of_scan file (scan.Damaged place) = read.Damaged (Log file) place
of_scan file scan.Memory = read.Memory

abbrev pub journal_refusal : LogBad → JournalRefusal
journal_refusal (read.Damaged file place) = journal.Damaged file place
journal_refusal read.Fault = journal.Fault
journal_refusal read.Memory = journal.Memory

abbrev pub make_refusal : LogBad → MakeRefusal
make_refusal (read.Damaged file place) = make.Damaged file place
make_refusal read.Fault = make.Fault
make_refusal read.Memory = make.Memory
