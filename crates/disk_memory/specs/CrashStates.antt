-- Logs in memory as the images that a crash may leave.
use Rattle.std.specs.Prelude.{◌≡◌, ◌⊎◌, ℕ, ◌<◌, List, [], ◌∷◌, drop, slice_get, Option, Some, None, length, Vec}
use Rattle.std.specs.declared.alloc.Global.{Global}
use Rattle.std.specs.declared.snapshot.Snapshot.{Snapshot}
use Rattle.disk_model.specs.Changes.{OnlyAt}
use Rattle.disk_model.specs.Logs.{Image, CrashImages, Follows}
use Rattle.disk_model.specs.Moments.{Elapses}
use Rattle.disk_memory.specs.declared.change.Change.{Change}
use Rattle.disk_memory.specs.declared.log.MemoryLog.{MemoryLog}
use Rattle.disk_memory.specs.Changes.{MayHold}

-- what is read of a log
abbrev pub content_of : Option MemoryLog → List ℕ
content_of None = []
content_of (Some log) = log.content.items

-- what is read of each log
abbrev pub read_of : List MemoryLog → Image
read_of logs file = content_of (slice_get logs file)

-- what is read of this log changes so, and of the others nothing
abbrev pub ReadBecomes : ℕ → (List ℕ → List ℕ → Type 0) → List MemoryLog → List MemoryLog → Type 0
ReadBecomes file change old new = OnlyAt file change (read_of old) (read_of new)

-- the changes of a log since its last sync
abbrev pub pending_of : Option MemoryLog → List Change
pending_of None = []
pending_of (Some log) = log.pending.items

-- these changes of each log
abbrev pub changes_of : List MemoryLog → ℕ → List Change
changes_of logs file = pending_of (slice_get logs file)

-- what a crash may leave of a log
abbrev pub LeavesOf : Option MemoryLog → List ℕ → Type 0
LeavesOf None bytes = bytes ≡ []
LeavesOf (Some log) bytes = MayHold log.pending.items log.sure.value.items bytes

-- what a crash may leave of all of them
abbrev pub MayLeave : List MemoryLog → CrashImages
MayLeave logs image = (file : ℕ) → LeavesOf (slice_get logs file) (image file)

-- what a crash might have left before one of these changes
abbrev pub MightLeave : List (Snapshot (Vec MemoryLog Global)) → CrashImages
MightLeave [] image = ⊥
MightLeave (then ∷ past) image = MayLeave then.value.items image ⊎ MightLeave past image

-- what a crash might have left since a moment, which is a number of changes
abbrev pub LeftSince : List (Snapshot (Vec MemoryLog Global)) → List MemoryLog → ℕ → CrashImages
LeftSince past logs moment image = MayLeave logs image ⊎ MightLeave (drop moment past) image

-- one log changed: what a crash may leave comes by that change, and time went on
pub record Steps (file : ℕ) (change : List ℕ → List ℕ → Type 0)
    (past : List (Snapshot (Vec MemoryLog Global))) (logs : List MemoryLog)
    (later : List (Snapshot (Vec MemoryLog Global))) (changed : List MemoryLog) : Type 0 where
  pub crash : Follows (OnlyAt file change) (MayLeave logs) (MayLeave changed)
  pub time : Elapses (length past) (length later) (LeftSince past logs) (LeftSince later changed) (MayLeave changed)

-- the bytes of a log, none where there is none
abbrev pub items_of : Option (Vec ℕ Global) → List ℕ
items_of None = []
items_of (Some content) = content.items

-- the bytes of each, none where there is none
abbrev pub bytes_of : List (Vec ℕ Global) → Image
bytes_of contents file = items_of (slice_get contents file)

-- logs that hold these bytes, all of them on the disk
abbrev pub AreSure : List MemoryLog → List (Vec ℕ Global) → Type 0
AreSure [] [] = Unit {0}
AreSure (log ∷ logs) (content ∷ contents) =
    (log.content.items ≡ content.items) × (log.sure.value.items ≡ content.items)
    × (log.pending.items ≡ []) × AreSure logs contents
AreSure [] (content ∷ contents) = ⊥
AreSure (log ∷ logs) [] = ⊥

-- bytes that a crash may leave of each log
abbrev pub AreLeft : List MemoryLog → List (Vec ℕ Global) → Type 0
AreLeft logs contents = (file : ℕ) → file < length contents → LeavesOf (slice_get logs file) (bytes_of contents file)

-- each is one zero byte
abbrev pub AreBlank : List (Vec ℕ Global) → Type 0
AreBlank contents = (file : ℕ) → file < length contents → bytes_of contents file ≡ 0 ∷ []
