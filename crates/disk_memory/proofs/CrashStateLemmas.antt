-- One log of several changes.
use Rattle.std.proofs.Common.{◌≡◌, ◌≢◌, ◌⊎◌, inl, inr, ⊎_elim, ℕ, zero, suc, ◌<◌, ◌≤◌, List, [], ◌∷◌, ◌++◌, length, drop, get_or, Option, Some, Vec, refl, sym, ◌∙◌, ap, subst, arith, length-append, slice_set}
use Rattle.std.specs.Prelude.{slice_get}
use Rattle.std.specs.declared.alloc.Global.{Global}
use Rattle.std.specs.declared.snapshot.Snapshot.{Snapshot}
use Rattle.std.proofs.lemmas.List.{drop-append-le}
use Rattle.std.proofs.lemmas.Option.{slice_get-get_or, slice_get_past}
use Rattle.disk_model.specs.Changes.{OnlyAt}
use Rattle.disk_model.specs.Logs.{Image, Follows}
use Rattle.disk_model.specs.Moments.{Elapses}
use Rattle.disk_memory.specs.declared.change.Change.{Change}
use Rattle.disk_memory.specs.declared.log.MemoryLog.{MemoryLog}
use Rattle.disk_memory.specs.Changes.{MayHold, MayBecome}
use Rattle.disk_memory.specs.CrashStates.{content_of, read_of, items_of, bytes_of, AreSure, AreLeft, LeavesOf, MayLeave, MightLeave, LeftSince, Steps}

pub get_set_here : {A : Type 0} → (xs : List A) (i : ℕ) (x : A) → i < length xs
    → slice_get (slice_set xs i x) i ≡ Some x
get_set_here [] i x lt = absurd (omega arith)
get_set_here (y ∷ ys) zero x lt = refl
get_set_here (y ∷ ys) (suc i) x lt = get_set_here ys i x (omega arith)

pub get_set_other : {A : Type 0} → (xs : List A) (i j : ℕ) (x : A) → j ≢ i
    → slice_get (slice_set xs i x) j ≡ slice_get xs j
get_set_other [] i j x apart = refl
get_set_other (y ∷ ys) zero zero x apart = absurd (apart refl)
get_set_other (y ∷ ys) zero (suc j) x apart = refl
get_set_other (y ∷ ys) (suc i) zero x apart = refl
get_set_other (y ∷ ys) (suc i) (suc j) x apart = get_set_other ys i j x (λ e. apart (ap suc e))

pub get_here : {A : Type 0} → (xs : List A) (i : ℕ) (x : A) → i < length xs → x ≡ get_or xs i x
    → slice_get xs i ≡ Some x
get_here xs i x lt is = slice_get-get_or xs i x lt ∙ ap Some (sym is)

-- the image with other bytes in one log
with_bytes : Image → ℕ → List ℕ → Image
with_bytes image zero bytes zero = bytes
with_bytes image zero bytes (suc other) = image (suc other)
with_bytes image (suc file) bytes zero = image zero
with_bytes image (suc file) bytes (suc other) = with_bytes (λ n. image (suc n)) file bytes other

with_here : (image : Image) (file : ℕ) (bytes : List ℕ) → with_bytes image file bytes file ≡ bytes
unfolding with_bytes
with_here image zero bytes = refl
with_here image (suc file) bytes = with_here (λ n. image (suc n)) file bytes

with_other : (image : Image) (file : ℕ) (bytes : List ℕ) (other : ℕ) → other ≢ file →
    with_bytes image file bytes other ≡ image other
unfolding with_bytes
with_other image zero bytes zero apart = absurd (apart refl)
with_other image zero bytes (suc other) apart = refl
with_other image (suc file) bytes zero apart = refl
with_other image (suc file) bytes (suc other) apart = with_other (λ n. image (suc n)) file bytes other
    (λ e. apart (ap suc e))

same_or_not : (a b : ℕ) → (a ≡ b) ⊎ (a ≢ b)
same_or_not zero zero = inl refl
same_or_not zero (suc b) = inr (λ e. absurd (omega arith))
same_or_not (suc a) zero = inr (λ e. absurd (omega arith))
same_or_not (suc a) (suc b) =
    ⊎_elim (λ (e : a ≡ b). inl (ap suc e)) (λ (ne : a ≢ b). inr (λ e. ne (omega arith))) (same_or_not a b)

lt_or_le : (a b : ℕ) → (a < b) ⊎ (b ≤ a)
lt_or_le a zero = inr (omega arith)
lt_or_le zero (suc b) = inl (omega arith)
lt_or_le (suc a) (suc b) = ⊎_elim (λ (lt : a < b). inl (omega arith)) (λ (le : b ≤ a). inr (omega arith)) (lt_or_le a b)

get_front : {A : Type 0} → (xs : List A) (x : A) (i : ℕ) → i < length xs → slice_get (xs ++ x ∷ []) i ≡ slice_get xs i
get_front [] x i lt = absurd (omega arith)
get_front (y ∷ ys) x zero lt = refl
get_front (y ∷ ys) x (suc i) lt = get_front ys x i (omega arith)

get_last : {A : Type 0} → (xs : List A) (x : A) → slice_get (xs ++ x ∷ []) (length xs) ≡ Some x
get_last [] x = refl
get_last (y ∷ ys) x = get_last ys x

-- what a crash may leave after a change of one log is what it might have left before, with that log changed so
pub crash_at : (logs : List MemoryLog) (file : ℕ) (log changed : MemoryLog) (change : List ℕ → List ℕ → Type 0)
    → file < length logs → slice_get logs file ≡ Some log
    → MayBecome change log.pending.items log.sure.value.items changed.pending.items changed.sure.value.items
    → Follows (OnlyAt file change) (MayLeave logs) (MayLeave (slice_set logs file changed))
crash_at logs file log changed change lt here becomes image may =
    let left = subst (λ (l : Option MemoryLog). LeavesOf l (image file)) (get_set_here logs file changed lt)
    (may file) in
    let (bytes, before, made) = becomes (image file) left in
    let old = with_bytes image file bytes in
    let at_file : LeavesOf (slice_get logs file) (old file) =
    subst (λ (l : Option MemoryLog). LeavesOf l (old file)) (sym here)
    (subst (λ (b : List ℕ). MayHold log.pending.items log.sure.value.items b) (sym (with_here image file bytes))
    before) in
    let at_other : (other : ℕ) → other ≢ file → LeavesOf (slice_get logs other) (old other) =
    λ other apart. subst (λ (b : List ℕ). LeavesOf (slice_get logs other) b)
    (sym (with_other image file bytes other apart))
    (subst (λ (l : Option MemoryLog). LeavesOf l (image other)) (get_set_other logs file other changed apart)
    (may other)) in (
      old,
      λ other. ⊎_elim (λ (same : other ≡ file). subst (λ (o : ℕ). LeavesOf (slice_get logs o) (old o)) (sym same)
          at_file) (λ (apart : other ≢ file). at_other other apart) (same_or_not other file),
      record {
        here = subst (λ (b : List ℕ). change b (image file)) (sym (with_here image file bytes)) made;
        others = λ other apart. sym (with_other image file bytes other apart);
      },
    )

past_more : (past : List (Snapshot (Vec MemoryLog Global))) (old : Snapshot (Vec MemoryLog Global)) (image : Image)
    → MightLeave (past ++ old ∷ []) image → MightLeave past image ⊎ MayLeave old.value.items image
past_more [] old image (left) = ⊎_elim (λ (now : MayLeave old.value.items image). inr now)
    (λ (no_more : ⊥). absurd no_more) left
past_more (p ∷ past) old image left =
    ⊎_elim (λ (now : MayLeave p.value.items image). inl (inl now))
    (λ (rest : MightLeave (past ++ old ∷ []) image). ⊎_elim (λ (early : MightLeave past image). inl (inr early))
    (λ (late : MayLeave old.value.items image). inr late) (past_more past old image rest)) left

past_keeps : (past : List (Snapshot (Vec MemoryLog Global))) (old : Snapshot (Vec MemoryLog Global)) (image : Image)
    → MightLeave past image → MightLeave (past ++ old ∷ []) image
past_keeps (p ∷ past) old image left =
    ⊎_elim (λ (now : MayLeave p.value.items image). inl now)
    (λ (rest : MightLeave past image). inr (past_keeps past old image rest)) left
past_keeps [] old image left = absurd left

past_last : (past : List (Snapshot (Vec MemoryLog Global))) (old : Snapshot (Vec MemoryLog Global)) (image : Image)
    → MayLeave old.value.items image → MightLeave (past ++ old ∷ []) image
past_last [] old image now = inl now
past_last (p ∷ past) old image now = inr (past_last past old image now)

-- time goes on by one change
pub time_at : (past later : List (Snapshot (Vec MemoryLog Global))) (old : Snapshot (Vec MemoryLog Global))
    (logs changed : List MemoryLog)
    → later ≡ past ++ old ∷ [] → old.value.items ≡ logs
    → Elapses (length past) (length later) (LeftSince past logs) (LeftSince later changed) (MayLeave changed)
time_at past later old logs changed more was = record {
  later = omega (arith, ap length more, length-append past (old ∷ []));
  nothing_else = λ t image le left. ⊎_elim (λ (now : MayLeave changed image). inr now)
      (λ (before : MightLeave (drop t later) image). inl
      (⊎_elim (λ (early : MightLeave (drop t past) image). inr early)
      (λ (late : MayLeave old.value.items image). inl (subst (λ (ls : List MemoryLog). MayLeave ls image) was
      late))
      (past_more (drop t past) old image (subst (λ (ps : List (Snapshot (Vec MemoryLog Global))). MightLeave ps image)
      (dropped t le) before)))) left;
  keeps = λ t image le left. inr (subst (λ (ps : List (Snapshot (Vec MemoryLog Global))). MightLeave ps image)
      (sym (dropped t le))
      (⊎_elim (λ (now : MayLeave logs image). past_last (drop t past) old image
      (subst (λ (ls : List MemoryLog). MayLeave ls image) (sym was) now))
      (λ (before : MightLeave (drop t past) image). past_keeps (drop t past) old image before) left));
}
  where
    dropped : (t : ℕ) → t ≤ length past → drop t later ≡ drop t past ++ old ∷ []
    dropped t le = ap (drop t) more ∙ drop-append-le t past (old ∷ []) le

-- no time passes
pub time_same : (past : List (Snapshot (Vec MemoryLog Global))) (logs : List MemoryLog)
    → Elapses (length past) (length past) (LeftSince past logs) (LeftSince past logs) (MayLeave logs)
time_same past logs = record {
  later = omega arith;
  nothing_else = λ t image le left. inl left;
  keeps = λ t image le
      left. left;
}

-- what is read after a change of one log
pub read_at : (logs : List MemoryLog) (file : ℕ) (log changed : MemoryLog) (change : List ℕ → List ℕ → Type 0)
    → file < length logs → slice_get logs file ≡ Some log → change log.content.items changed.content.items
    → OnlyAt file change (read_of logs) (read_of (slice_set logs file changed))
read_at logs file log changed change lt here made = record {
  here = subst (λ (l : Option MemoryLog). change (content_of l)
      (content_of (slice_get (slice_set logs file changed) file))) (sym here)
      (subst (λ (l : Option MemoryLog). change log.content.items (content_of l))
      (sym (get_set_here logs file changed lt)) made);
  others = λ other apart. ap content_of (get_set_other logs file other changed apart);
}

pub read_same : (logs : List MemoryLog) (file : ℕ) (log changed : MemoryLog)
    → file < length logs → slice_get logs file ≡ Some log → changed.content.items ≡ log.content.items
    → (other : ℕ) → read_of (slice_set logs file changed) other ≡ read_of logs other
read_same logs file log changed lt here same other =
    ⊎_elim (λ (at : other ≡ file). subst (λ (o : ℕ). read_of (slice_set logs file changed) o ≡ read_of logs o)
    (sym at) (ap content_of (get_set_here logs file changed lt) ∙ (same ∙ sym (ap content_of here))))
    (λ (apart : other ≢ file). ap content_of (get_set_other logs file other changed apart)) (same_or_not other file)

pub steps_at : (past later : List (Snapshot (Vec MemoryLog Global))) (old : Snapshot (Vec MemoryLog Global))
    (logs : List MemoryLog) (file : ℕ) (log changed : MemoryLog) (change : List ℕ → List ℕ → Type 0)
    → later ≡ past ++ old ∷ [] → old.value.items ≡ logs → file < length logs → slice_get logs file ≡ Some log
    → MayBecome change log.pending.items log.sure.value.items changed.pending.items changed.sure.value.items
    → Steps file change past logs later (slice_set logs file changed)
steps_at past later old logs file log changed change more was lt here becomes =
    record {
      crash = crash_at logs file log changed change lt here becomes;
      time = time_at past later old logs
          (slice_set logs file changed) more was;
    }

-- nothing changes
pub only_at_same : (file : ℕ) (change : List ℕ → List ℕ → Type 0) (image : Image) →
    ((bytes : List ℕ) → change bytes bytes) → OnlyAt file change image image
only_at_same file change image same = record { here = same (image file); others = λ other apart. refl }

pub steps_same : (file : ℕ) (change : List ℕ → List ℕ → Type 0) (past later : List (Snapshot (Vec MemoryLog Global)))
    (logs : List MemoryLog) → later ≡ past
    → ((bytes : List ℕ) → change bytes bytes) → Steps file change past logs later logs
steps_same file change past later logs is same = record {
  crash = λ image may. (image, may, only_at_same file change image same);
  time = subst (λ (ps : List (Snapshot (Vec MemoryLog Global))). Elapses (length past) (length ps)
      (LeftSince past logs) (LeftSince ps logs) (MayLeave logs)) (sym is) (time_same past logs);
}

-- a log of which no change waits holds what it is sure of
pub settles_at : (logs : List MemoryLog) (file : ℕ) (changed : MemoryLog) → file < length logs →
    changed.pending.items ≡ [] → changed.sure.value.items ≡ changed.content.items
    → (image : Image) → MayLeave (slice_set logs file changed) image
    → image file ≡ read_of (slice_set logs file changed) file
settles_at logs file changed lt none sure image may =
    let here = get_set_here logs file changed lt in
    let left = subst (λ (l : Option MemoryLog). LeavesOf l (image file)) here (may file) in
    let held : MayHold [] changed.sure.value.items (image file) =
    subst (λ (cs : List Change). MayHold cs changed.sure.value.items (image file)) none left in
    held ∙ (sure ∙ sym (ap content_of here))

pub sure_more : (logs : List MemoryLog) (contents : List (Vec ℕ Global)) (log : MemoryLog) (content : Vec ℕ Global) →
    AreSure logs contents
    → log.content.items ≡ content.items → log.sure.value.items ≡ content.items → log.pending.items ≡ [] →
    AreSure (logs ++ log ∷ []) (contents ++ content ∷ [])
sure_more [] [] log content are reads sure none = (reads, sure, none, tt)
sure_more (l ∷ logs) (c ∷ contents) log content (a, b, d, are) reads sure none =
    (a, b, d, sure_more logs contents log content are reads sure none)
sure_more [] (c ∷ contents) log content are reads sure none = absurd are
sure_more (l ∷ logs) [] log content are reads sure none = absurd are

pub sure_length : (logs : List MemoryLog) (contents : List (Vec ℕ Global)) → AreSure logs contents
    → length logs ≡ length contents
sure_length [] [] are = refl
sure_length (l ∷ logs) (c ∷ contents) (a, b, d, are) = ap suc (sure_length logs contents are)
sure_length [] (c ∷ contents) are = absurd are
sure_length (l ∷ logs) [] are = absurd are

pub sure_reads : (logs : List MemoryLog) (contents : List (Vec ℕ Global)) → AreSure logs contents → (file : ℕ) →
    read_of logs file ≡ bytes_of contents file
sure_reads [] [] are file = refl
sure_reads (l ∷ logs) (c ∷ contents) (a, b, d, are) zero = a
sure_reads (l ∷ logs) (c ∷ contents) (a, b, d, are) (suc file) = sure_reads logs contents are file
sure_reads [] (c ∷ contents) are file = absurd are
sure_reads (l ∷ logs) [] are file = absurd are

sure_leaves : (logs : List MemoryLog) (contents : List (Vec ℕ Global)) → AreSure logs contents →
    (file : ℕ) (bytes : List ℕ) → LeavesOf (slice_get logs file) bytes → bytes ≡ bytes_of contents file
sure_leaves [] [] are file bytes left = left
sure_leaves (l ∷ logs) (c ∷ contents) (a, b, d, are) zero bytes left =
    let held : MayHold [] l.sure.value.items bytes =
    subst (λ (cs : List Change). MayHold cs l.sure.value.items bytes) d left in held ∙ b
sure_leaves (l ∷ logs) (c ∷ contents) (a, b, d, are) (suc file) bytes left = sure_leaves logs contents are file bytes
    left
sure_leaves [] (c ∷ contents) are file bytes left = absurd are
sure_leaves (l ∷ logs) [] are file bytes left = absurd are

pub sure_only : (logs : List MemoryLog) (contents : List (Vec ℕ Global)) → AreSure logs contents → (image : Image) →
    MayLeave logs image → (file : ℕ) → image file ≡ bytes_of contents file
sure_only logs contents are image may file = sure_leaves logs contents are file (image file) (may file)

pub left_is_image : (logs : List MemoryLog) (contents : List (Vec ℕ Global)) → length contents ≡ length logs →
    AreLeft logs contents
    → (image : Image) → ((file : ℕ) → image file ≡ bytes_of contents file) → MayLeave logs image
left_is_image logs contents same are image is file =
    ⊎_elim (λ (lt : file < length contents). subst (λ (bytes : List ℕ). LeavesOf (slice_get logs file) bytes)
    (sym (is file)) (are file lt))
    (λ (past : length contents ≤ file). subst (λ (l : Option MemoryLog). LeavesOf l (image file))
    (sym (slice_get_past logs file (omega arith))) (is file ∙ ap items_of (slice_get_past contents file past)))
    (lt_or_le file (length contents))

pub left_more : (logs : List MemoryLog) (contents : List (Vec ℕ Global)) (log : MemoryLog) (content : Vec ℕ Global) →
    AreLeft logs contents
    → slice_get logs (length contents) ≡ Some log → MayHold log.pending.items log.sure.value.items content.items →
    AreLeft logs (contents ++ content ∷ [])
left_more logs contents log content are here held file lt =
    ⊎_elim (λ (below : file < length contents). subst (λ (c : Option (Vec ℕ Global)). LeavesOf (slice_get logs file)
    (items_of c)) (sym (get_front contents content file below)) (are file below))
    (λ (last : length contents ≤ file). let at : file ≡ length contents = omega
    (arith, lt, length-append contents (content ∷ [])) in
    subst (λ (f : ℕ). LeavesOf (slice_get logs f) (items_of (slice_get (contents ++ content ∷ []) f))) (sym at)
    (subst (λ (c : Option (Vec ℕ Global)). LeavesOf (slice_get logs (length contents)) (items_of c))
    (sym (get_last contents content))
    (subst (λ (l : Option MemoryLog). LeavesOf l content.items) (sym here) held)))
    (lt_or_le file (length contents))
