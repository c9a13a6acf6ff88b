-- A log as the bytes that its last sync put on the disk, and each change since.
use Rattle.std.specs.Prelude.{◌≡◌, ℕ, ◌+◌, List, [], ◌∷◌, ◌++◌, length, take, drop}
use Rattle.disk_model.specs.Logs.{written_at, Torn, MayCut}
use Rattle.disk_memory.specs.declared.change.Change.{Change}
use Rattle.disk_memory.specs.declared.change.Change.TheVariants.{Wrote, Cut, MissedWrite, MissedCut}

-- what is read after a change
abbrev pub redo : Change → List ℕ → List ℕ
redo (Wrote place bytes over) old = written_at old place bytes.items
redo (Cut len lost) old = take len old
redo (MissedWrite place bytes) old = old
redo (MissedCut len) old = old

abbrev pub redone : List Change → List ℕ → List ℕ
redone [] old = old
redone (change ∷ changes) old = redone changes (redo change old)

-- what was read before a change
abbrev pub undo : Change → List ℕ → List ℕ
undo (Wrote place bytes over) new = take place new ++ over.items ++ drop (place + length bytes.items) new
undo (Cut len lost) new = new ++ lost.items
undo (MissedWrite place bytes) new = new
undo (MissedCut len) new = new

-- what was read before all of them; the last change is taken back first
abbrev pub undone : List Change → List ℕ → List ℕ
undone [] new = new
undone (change ∷ changes) new = undo change (undone changes new)

-- what a crash may make of a change
abbrev pub MayMake : Change → List ℕ → List ℕ → Type 0
MayMake (Wrote place bytes over) old new = Torn place (length bytes.items) old new
MayMake (Cut len lost) old new = MayCut len old new
MayMake (MissedWrite place bytes) old new = Torn place (length bytes.items) old new
MayMake (MissedCut len) old new = MayCut len old new

-- what a crash may make of all of them
abbrev pub MayHold : List Change → List ℕ → List ℕ → Type 0
MayHold [] old new = new ≡ old
MayHold (change ∷ changes) old new = (middle : List ℕ) × MayMake change old middle × MayHold changes middle new

-- all that the log may hold comes by this step from what it might have held
abbrev pub MayBecome : (List ℕ → List ℕ → Type 0) → List Change → List ℕ → List Change → List ℕ → Type 0
MayBecome step old_changes old_sure changes sure =
    (new : List ℕ) → MayHold changes sure new → (old : List ℕ) × MayHold old_changes old_sure old × step old new

-- the change that a write of these bytes to this log makes
abbrev pub IsWrite : ℕ → List ℕ → List ℕ → Change → Type 0
IsWrite place bytes content (Wrote p copy over) =
    (p ≡ place) × (copy.items ≡ bytes) × (over.items ≡ take (length bytes) (drop place content))
IsWrite place bytes content (Cut len lost) = ⊥
IsWrite place bytes content (MissedWrite p copy) = ⊥
IsWrite place bytes content (MissedCut len) = ⊥
