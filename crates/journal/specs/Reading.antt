-- What reading the logs of a directory finds.
use Rattle.std.specs.Prelude.{ℕ, ◌≡◌, ◌<◌, [], Option, MatchOption}
use Rattle.disk_model.specs.Logs.{Image, CrashImages, Settled}
use Rattle.disk_model.specs.declared.disk.Disk
use Rattle.directory_meaning.specs.Bodies.{Bodies}
use Rattle.directory_meaning.specs.Damages.{AreRootBodies}
use Rattle.directory_reading.specs.Reading.{HasEntries, IsNewestRoot}
use Rattle.journal.specs.LogReading.{IsRead}
use Rattle.journal.specs.declared.journals.Journals.{Journals}
use Rattle.journal.specs.declared.root_logs.RootLogs.{RootLogs}

-- both root logs were read: their bodies are those of roots, and this is the newest root
pub record AreRootLogs {D : Type 0} (of_disk : Disk.Ghosts D) (old new : D) (found : RootLogs) : Type 0 where
  pub bodies : Bodies
  pub first_read : IsRead of_disk 2 old new found.first (bodies 2)
  pub second_read : IsRead of_disk 3 old new found.second (bodies 3)
  pub first_roots : AreRootBodies (bodies 2)
  pub second_roots : AreRootBodies (bodies 3)
  pub newest : MatchOption found.newest ((bodies 2 ≡ []) × (bodies 3 ≡ [])) (IsNewestRoot bodies)

-- both journals were read, and have these entries
pub record AreJournals {D : Type 0} (of_disk : Disk.Ghosts D) (old new : D) (found : Journals) : Type 0 where
  pub bodies : Bodies
  pub first_read : IsRead of_disk 0 old new found.first (bodies 0)
  pub second_read : IsRead of_disk 1 old new found.second (bodies 1)
  pub first_entries : HasEntries (bodies 0) found.entries_0
  pub second_entries : HasEntries (bodies 1) found.entries_1

-- a crash leaves each log below this number as a read returns it
pub record AreSettled (end : ℕ) (seen : Option Image) (may_leave : CrashImages) : Type 0 where
  pub each : (file : ℕ) → file < end → Settled file seen may_leave
