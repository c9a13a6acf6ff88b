-- The laws of a disk, for logs in memory.
use Rattle.std.specs.Prelude.{ℕ, List, [], ◌∷◌, length, drop, slice_get, Option, Some, None, Vec, refl}
use Rattle.std.proofs.Common.{◌≡◌, ◌≢◌, inl, inr, ⊎_elim, arith, sym, subst, eqb, true, false}
use Rattle.std.proofs.lemmas.Bool.Decides.{eqb_tells}
use Rattle.std.proofs.Math.ListN.{drop_of_length-le}
use Rattle.std.specs.declared.alloc.Global.{Global}
use Rattle.std.specs.declared.snapshot.Snapshot.{Snapshot}
use Rattle.disk_model.specs.Logs.{Image, HasLogOf}
use Rattle.disk_memory.specs.declared.change.Change.{Change}
use Rattle.disk_memory.specs.declared.change.Change.TheVariants.{Wrote, Cut, MissedWrite, MissedCut}
use Rattle.disk_memory.specs.declared.log.MemoryLog.{MemoryLog}
use Rattle.disk_memory.specs.Changes.{redo, redone, MayMake, MayHold}
use Rattle.disk_memory.specs.CrashStates.{content_of, read_of, LeavesOf, MayLeave, MightLeave, LeftSince}
use Rattle.disk_model.proofs.LogsLemmas.{torn_same, whole_torn}

may_redo : (change : Change) (old : List ℕ) → MayMake change old (redo change old)
may_redo (Wrote place bytes over) old = whole_torn old bytes.items place
may_redo (Cut len lost) old = inl refl
may_redo (MissedWrite place bytes) old = torn_same place (length bytes.items) old
may_redo (MissedCut len) old = inr refl

pub may_read : (changes : List Change) (sure : List ℕ) → MayHold changes sure (redone changes sure)
may_read [] sure = refl
may_read (change ∷ changes) sure = (redo change sure, may_redo change sure, may_read changes (redo change sure))

reads_log : (log : Option MemoryLog) → LeavesOf log (content_of log)
reads_log None = refl
reads_log (Some log) =
    subst (λ (bytes : List ℕ). MayHold log.pending.items log.sure.value.items bytes)
    (sym log.redone) (may_read log.pending.items log.sure.value.items)

pub reads_now_of : (logs : List MemoryLog) → MayLeave logs (read_of logs)
reads_now_of logs file = reads_log (slice_get logs file)

pub only_now_of : (past : List (Snapshot (Vec MemoryLog Global))) (logs : List MemoryLog) (image : Image)
    → LeftSince past logs (length past) image → MayLeave logs image
only_now_of past logs image left =
    ⊎_elim (λ (now : MayLeave logs image). now)
    (λ (before : MightLeave (drop (length past) past) image).
    absurd (subst (λ (ps : List (Snapshot (Vec MemoryLog Global))). MightLeave ps image)
    (drop_of_length-le past {i = length past} (omega arith)) before)) left

pub counts_now_of : (past : List (Snapshot (Vec MemoryLog Global))) (logs : List MemoryLog) (t : ℕ) (image : Image)
    → MayLeave logs image → LeftSince past logs t image
counts_now_of past logs t image now = inl now

pub each_alone_of : (logs : List MemoryLog) (file : ℕ) (other old new : Image) → MayLeave logs other → MayLeave logs old
    → HasLogOf file other old new → MayLeave logs new
each_alone_of logs file other old new may was is log =
    ⊎_elim
    (λ (here : (eqb log file ≡ true) × (log ≡ file)).
    subst (λ n. LeavesOf (slice_get logs n) (new n)) (sym here.1)
    (subst (λ (bytes : List ℕ). LeavesOf (slice_get logs file) bytes) (sym is.here) (may file)))
    (λ (apart : (eqb log file ≡ false) × (log ≢ file)).
    subst (λ (bytes : List ℕ). LeavesOf (slice_get logs log) bytes) (sym (is.others log apart.1)) (was log))
    (eqb_tells log file)
