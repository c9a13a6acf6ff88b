-- The steps of a log: a frame behind its gate, the gate opened or closed, and a cut behind it.
use Rattle.std.proofs.Common.{◌≡◌, ◌≢◌, refl, ◌≤◌, ◌^◌, ◌+◌, inl, subst, ℕ, List, [], ◌∷◌, ◌++◌, length, IsSome, IfSome}
use Rattle.disk_model.specs.Changes.{OnlyAt, Becomes}
use Rattle.disk_model.specs.Logs.{Image, CrashImages, Writes, Torn, MayCut, Settled}
use Rattle.frame_log.specs.Frames.{sized, framed, HasFrames, HasGate, MayHave}
use Rattle.frame_log.specs.LogStates.{Leaves, Represents, Holds}
use Rattle.disk_model.specs.Stretches.{Changed, Since}
use Rattle.disk_model.specs.declared.disk.Disk
use Rattle.frame_log.specs.declared.log.Log.{Log}
use Rattle.frame_log.specs.declared.frame.TheConstants.{OPEN, CLOSED}
use Rattle.frame_log.specs.declared.state.State.{State}
use Rattle.frame_log.specs.declared.state.State.TheVariants.{Healthy, Failed, GateUnknown}
use Rattle.frame_log.proofs.Changes.{each_changed, settled_change}
use Rattle.frame_log.proofs.Bytes.{torn_behind, staged, gate_torn, gate_opened, gate_closed, cut_kept, may_have}

-- what a log that isn't down may leave
pub leaves_good : (state : State) (kept more : List (List ℕ)) (bytes : List ℕ) → state ≡ Healthy → Leaves state kept
    more bytes → HasFrames kept bytes
leaves_good Healthy kept more bytes good has = has
leaves_good Failed kept more bytes good has = has
leaves_good GateUnknown kept more bytes good has = absurd (cc)

pub good_leaves : (state : State) (kept more : List (List ℕ)) (bytes : List ℕ) → state ≡ Healthy → HasFrames kept bytes
    → Leaves state kept more bytes
good_leaves Healthy kept more bytes good has = has
good_leaves Failed kept more bytes good has = has
good_leaves GateUnknown kept more bytes good has = absurd (cc)

pub leaves_may : (state : State) (kept more : List (List ℕ)) (bytes : List ℕ) → Leaves state kept more bytes →
    MayHave kept more bytes
leaves_may Healthy kept more bytes has = inl has
leaves_may Failed kept more bytes has = inl has
leaves_may GateUnknown kept more bytes has = may_have kept more bytes has

pub leaves_touched : (state : State) (kept more : List (List ℕ)) (bytes : List ℕ) → state ≡ GateUnknown → Leaves state
    kept more bytes → HasGate kept more bytes
leaves_touched Healthy kept more bytes touched has = absurd (cc)
leaves_touched Failed kept more bytes touched has = absurd (cc)
leaves_touched GateUnknown kept more bytes touched has = has

pub touched_leaves : (state : State) (kept more : List (List ℕ)) (bytes : List ℕ) → state ≡ GateUnknown → HasGate kept
    more bytes → Leaves state kept more bytes
touched_leaves Healthy kept more bytes touched has = absurd (cc)
touched_leaves Failed kept more bytes touched has = absurd (cc)
touched_leaves GateUnknown kept more bytes touched has = has

pub leaves_shut : (state : State) (kept more : List (List ℕ)) (bytes : List ℕ) → state ≢ GateUnknown → Leaves state kept
    more bytes → HasFrames kept bytes
leaves_shut Healthy kept more bytes shut has = has
leaves_shut Failed kept more bytes shut has = has
leaves_shut GateUnknown kept more bytes shut has = absurd (shut refl)

-- a log that has some frames represents them, whatever was to be added
pub holds_more : {D : Type 0} (of_disk : Disk.Ghosts D) (log : Log) (disk : D)
    (kept more : List (List ℕ))
    → Holds of_disk log disk kept → Represents of_disk log disk kept more
holds_more of_disk log disk kept more holds = record {
  told = holds.represents.told;
  at_end = holds.represents.at_end;
  images = λ c left. good_leaves log.state kept more (c log.file) holds.good
      (leaves_good log.state kept [] (c log.file) holds.good (holds.represents.images c left));
}

-- all that may be left of the log has P
abbrev pub Each : ℕ → CrashImages → (List ℕ → Type 0) → Type 0
Each file may_leave P = (c : Image) → may_leave c → P (c file)

-- the same at every moment
abbrev pub Always : {D : Type 0} → Disk.Ghosts D → ℕ → D → D → (List ℕ → Type 0) → Type 0
Always of_disk file old new P = Since of_disk old new (λ c. P (c file))

module _ {D : Type 0} (of_disk : Disk.Ghosts D) (file end : ℕ) (kept : List (List ℕ))
    (at_end : end ≡ length (framed kept)) where
  abbrev pub AllChanged : D → D → (List ℕ → List ℕ → Type 0) → Type 0
  AllChanged old new change = Since of_disk old new (Changed (of_disk.may_leave old) file change)

  -- while something is written behind the gate
  pub writes_behind : (n : ℕ) (old new : D) → end + 1 + n ≤ 2 ^ 62
      → Each file (of_disk.may_leave old) (HasFrames kept) →
      AllChanged old new (Torn (end + 1) n) → Always of_disk file old new (HasFrames kept)
  writes_behind n old new room has all =
      each_changed _ _ _ _ (of_disk.may_leave old) file (Torn (end + 1) n) (HasFrames kept) (HasFrames kept) all has
      (λ a b is torn. torn_behind kept end at_end n a b room is torn)

  -- a frame is behind the gate
  pub represents_behind : (body bytes : List ℕ) (old new : D) → bytes ≡ sized body ++ CLOSED ∷ [] → end + 1 + length
      bytes ≤ 2 ^ 62 → Each file (of_disk.may_leave old) (HasFrames kept)
      → IsSome (of_disk.seen old) → IfSome (of_disk.seen old) (of_disk.may_leave old)
      → Becomes (OnlyAt file (Writes (end + 1) bytes))
      (of_disk.seen old) (of_disk.seen new) → Settled file (of_disk.seen new) (of_disk.may_leave new)
      → Each file (of_disk.may_leave new) (HasGate kept (body ∷ []))
  represents_behind body bytes old new frame room has told reads is settled c left =
      let from = settled_change file (Writes (end + 1) bytes) (Writes (end + 1) bytes) (of_disk.seen old)
      (of_disk.seen new)
      (of_disk.may_leave old) (of_disk.may_leave new) told reads is settled (λ a b same. same) c left in
      let (d, was, written) = from in
      staged kept end at_end body (d file) (c file) (subst (λ l. end + 1 + length l ≤ 2 ^ 62) frame room) (has d was)
      (subst (λ l. Writes (end + 1) l (d file) (c file)) frame written)

  -- while the gate is written
  pub writes_gate : (more : List (List ℕ)) (old new : D) → Each file (of_disk.may_leave old) (HasGate kept more)
      → AllChanged
      old new (Torn end 1) → Always of_disk file old new (HasGate kept more)
  writes_gate more old new has all =
      each_changed _ _ _ _ (of_disk.may_leave old) file (Torn end 1) (HasGate kept more) (HasGate kept more) all has
      (gate_torn kept end at_end more)

  pub opens_gate : (more : List (List ℕ)) (old new : D) → Each file (of_disk.may_leave old) (HasGate kept more) → IsSome
      (of_disk.seen old) → IfSome (of_disk.seen old) (of_disk.may_leave old)
      → Becomes (OnlyAt file (Writes end (OPEN ∷ []))) (of_disk.seen old) (of_disk.seen new)
      → Settled file (of_disk.seen new)
      (of_disk.may_leave new) → Each file (of_disk.may_leave new) (HasFrames (kept ++ more))
  opens_gate more old new has told reads is settled c left =
      let from = settled_change file (Writes end (OPEN ∷ [])) (Writes end (OPEN ∷ [])) (of_disk.seen old)
      (of_disk.seen new)
      (of_disk.may_leave old) (of_disk.may_leave new) told reads is settled (λ a b same. same) c left in
      let (d, was, written) = from in
      gate_opened kept end at_end more (d file) (c file) (has d was) written

  pub closes_gate : (more : List (List ℕ)) (old new : D) → Each file (of_disk.may_leave old) (HasGate kept more)
      → IsSome
      (of_disk.seen old) → IfSome (of_disk.seen old) (of_disk.may_leave old)
      → Becomes (OnlyAt file (Writes end (CLOSED ∷ []))) (of_disk.seen old) (of_disk.seen new)
      → Settled file (of_disk.seen new)
      (of_disk.may_leave new) → Each file (of_disk.may_leave new) (HasFrames kept)
  closes_gate more old new has told reads is settled c left =
      let from = settled_change file (Writes end (CLOSED ∷ [])) (Writes end (CLOSED ∷ [])) (of_disk.seen old)
      (of_disk.seen new)
      (of_disk.may_leave old) (of_disk.may_leave new) told reads is settled (λ a b same. same) c left in
      let (d, was, written) = from in
      gate_closed kept end at_end more (d file) (c file) (has d was) written

  -- while the log is cut behind its closed gate
  pub cuts_behind : (old new : D) → Each file (of_disk.may_leave old) (HasFrames kept) → AllChanged old new
      (MayCut (end + 1)) → Always of_disk file old new (HasFrames kept)
  cuts_behind old new has all =
      each_changed _ _ _ _ (of_disk.may_leave old) file (MayCut (end + 1)) (HasFrames kept) (HasFrames kept) all has
      (cut_kept kept end at_end)

  -- what may be left at the end of a stretch
  pub at_last : (P : List ℕ → Type 0) (old new : D)
      → ((t : ℕ) (c : Image) → t ≤ of_disk.moment new → of_disk.may_leave new c →
      of_disk.left_since new t c) → Always of_disk file old new P → Each file (of_disk.may_leave new) P
  at_last P old new counts all c left = all.each c (counts (of_disk.moment old) c all.later left)
