-- What reading one log finds, and why it fails.
use Rattle.std.specs.Prelude.{ℕ, ◌≡◌, List, [], Option, IfSome, Result, MatchResult, Vec, ⊤}
use Rattle.std.specs.declared.alloc.Global.{Global}
use Rattle.disk_model.specs.declared.disk.Disk
use Rattle.disk_model.specs.declared.file_name.FileName.TheVariants as file_name
use Rattle.directory_reading.specs.Reading.{HasEntries, HasNewest}
use Rattle.directory_reading.specs.declared.entries.EntriesRead.{EntriesRead}
use Rattle.directory_reading.specs.declared.roots.RootsRead.{RootsRead}
use Rattle.directory_reading.specs.declared.unread.LogBad.{LogBad}
use Rattle.directory_reading.specs.declared.unread.LogBad.TheVariants.{Damaged, Fault, Memory}
use Rattle.frame_log.specs.Frames.{HasFrames}
use Rattle.frame_log.specs.FramesRead.{FindsNext, HasRead, IsBrokenBehind}
use Rattle.frame_log.specs.Scanned.{Opens}
use Rattle.frame_log.specs.declared.frame_reader.FrameReader.{FrameReader}
use Rattle.frame_log.specs.declared.log.Log.{Log}

-- the log that was read has these frames, and a crash leaves them if it was synced before
pub record IsRead {D : Type 0} (of_disk : Disk.Ghosts D) (file : ℕ) (old new : D)
    (log : Log) (bodies : List (List ℕ)) : Type 0 where
  pub opens : Opens of_disk file old new log bodies
  pub frames : IfSome (of_disk.seen old) (λ image. HasFrames bodies (image file))

-- a root log was read, and its newest root is this one
pub record HasReadRoots {D : Type 0} (of_disk : Disk.Ghosts D) (file : ℕ) (old new : D)
    (log : Log) (roots : RootsRead) : Type 0 where
  pub bodies : List (List ℕ)
  pub read : IsRead of_disk file old new log bodies
  pub newest : HasNewest file bodies roots.newest

-- a journal was read, and has these entries
pub record HasReadEntries {D : Type 0} (of_disk : Disk.Ghosts D) (file : ℕ) (old new : D)
    (log : Log) (entries : EntriesRead) : Type 0 where
  pub bodies : List (List ℕ)
  pub read : IsRead of_disk file old new log bodies
  pub has : HasEntries bodies entries

-- this log breaks a rule at the place of the error, or the disk failed, or memory ran out
abbrev pub IsUnreadLog : (ℕ → Type 0) → ℕ → LogBad → Type 0
IsUnreadLog breaks file (Damaged (file_name.Log other) place) = (other ≡ file) × breaks place
IsUnreadLog breaks file (Damaged (file_name.Sealed number) place) = ⊥
IsUnreadLog breaks file Fault = ⊤
IsUnreadLog breaks file Memory = ⊤

-- why a reader didn't begin: the log has no byte, or the disk failed
abbrev pub NotBegunAs : List ℕ → ℕ → LogBad → Type 0
NotBegunAs bytes file (Damaged (file_name.Log other) place) = (other ≡ file) × (bytes ≡ []) × (place ≡ 0)
NotBegunAs bytes file (Damaged (file_name.Sealed number) place) = ⊥
NotBegunAs bytes file Fault = ⊤
NotBegunAs bytes file Memory = ⊥

-- of bytes whose frames were read up to here: the next one is found, or the end, or why not
abbrev pub ReadsOnAs : ℕ → FrameReader → FrameReader → List ℕ → Result (Option (Vec ℕ Global)) LogBad → Type 0
ReadsOnAs file old new bytes result = (bodies : List (List ℕ)) → HasRead old bodies bytes
    → MatchResult result (FindsNext new bodies bytes) (IsUnreadLog (IsBrokenBehind bodies bytes) file)
