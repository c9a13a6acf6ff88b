-- Why the next frame of a log wasn't read, as an error of its log.
use Rattle.std.proofs.Common.{refl, ℕ, List}
use Rattle.frame_log.specs.FramesRead.{NotFound, IsBrokenBehind}
use Rattle.frame_log.specs.declared.refusal.ScanRefusal.{ScanRefusal}
use Rattle.frame_log.specs.declared.refusal.ScanRefusal.TheVariants.{Fault, Damaged, Memory}
use Rattle.journal.specs.LogReading.{IsUnreadLog}
use Rattle.journal.specs.Refusals.{of_scan}

pub not_found : (file : ℕ) (bodies : List (List ℕ)) (bytes : List ℕ) (why : ScanRefusal) → NotFound bodies bytes why
    → IsUnreadLog (IsBrokenBehind bodies bytes) file (of_scan file why)
not_found file bodies bytes Fault not = tt
not_found file bodies bytes (Damaged place) not = (refl, not)
not_found file bodies bytes Memory not = tt
