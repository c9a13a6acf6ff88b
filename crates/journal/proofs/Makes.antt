-- The logs of an empty database, made.
use Rattle.std.proofs.Common.{◌≡◌, ◌⊎◌, inl, inr, ⊎_elim, ◌<◌, ◌≤◌, ◌+◌, ◌^◌, ◌∙◌, Bool, true, false, ◌&&◌, refl, sym, subst, ap, ℕ, zero, suc, List, [], ◌∷◌, ◌++◌, length, length-append, nat_lt, Option, None, Result, Ok, Err, IsErrAnd, arith}
use Rattle.std.specs.Prelude.{if◌then◌else◌}
use Rattle.disk_model.specs.declared.disk.Disk
use Rattle.disk_model.specs.Causes.{Rose}
use Rattle.disk_model.specs.Files.{Files}
use Rattle.disk_model.specs.Logs.{Image}
use Rattle.disk_model.specs.Stretches.{OnlyRead, Since}
use Rattle.doc_meaning.specs.History.{Base, empty_base, settings_of}
use Rattle.doc_model.specs.declared.settings.Settings.{Settings}
use Rattle.directory_meaning.specs.Bodies.{AreRoots, MayHaveBodies}
use Rattle.directory_meaning.specs.Damages.{AreBadRootLogs, AreRootBodies}
use Rattle.directory_meaning.specs.Directories.{IsUsed, HasNoRoot, IsTaken, MakesShown, ShowsAs}
use Rattle.directory_meaning.specs.Laws.{no_bodies}
use Rattle.directory_meaning.specs.Shown.{Shows, first_root, only_body}
use Rattle.directory_meaning.proofs.BodyLemmas.{root_log_is_whole}
use Rattle.directory_meaning.proofs.EmptyLemmas.{first_root_is_told}
use Rattle.directory_meaning.proofs.ShownLemmas.{nothing_is_shown, told_is_shown}
use Rattle.directory_reading.specs.Reading.{IsNewestRoot}
use Rattle.directory_reading.specs.declared.newest.Newest.{Newest}
use Rattle.frame_log.specs.Calls.{Blames}
use Rattle.frame_log.specs.Frames.{HasFrames, MayHave}
use Rattle.frame_log.specs.LogStates.{IsEmpty, IsUp, end_of, file_of}
use Rattle.frame_log.specs.declared.log.Log.{Log}
use Rattle.frame_log.specs.declared.refusal.LogRefusal.{LogRefusal}
use Rattle.frame_log.specs.declared.refusal.LogRefusal.TheVariants as log
use Rattle.frame_log.proofs.OneLemmas.{frames_are_one}
use Rattle.frame_log.proofs.Stretches.{throughout_then, throughout_weaker}
use Rattle.journal_bodies.specs.Roots.{PlainRoot, SpellsRoot}
use Rattle.log_pair.specs.PairStates as pair
use Rattle.log_pair.specs.PairStates.{other_of}
use Rattle.journal.specs.Calls.{Adds, AppendsRoot, AppendsTo, broken_off_at}
use Rattle.journal.specs.JournalStates.{AreUp, LogsRepresent, current_of, has_frames, root_log}
use Rattle.journal.specs.Making.{IsEmptyJournal}
use Rattle.std.specs.Option.{is_none}
use Rattle.journal.specs.Opening.{Made}
use Rattle.journal.specs.declared.broken_off.BrokenOff.{BrokenOff}
use Rattle.journal.specs.declared.broken_off.BrokenOff.TheVariants as broken
use Rattle.journal.specs.declared.journal.Journal.{Journal}
use Rattle.journal.specs.declared.refusal.MakeRefusal.{MakeRefusal}
use Rattle.journal.specs.declared.refusal.MakeRefusal.TheVariants as make
use Rattle.journal.proofs.CallSteps.{empty_chosen}
use Rattle.journal.proofs.FirstRoot.{first_root_is_short}

-- bodies of roots are none where there are none
no_bodies_of : (bodies : List (List ℕ)) (roots : List PlainRoot) → AreRoots bodies roots → bodies ≡ [] → roots ≡ []
no_bodies_of [] [] are none = refl
no_bodies_of [] (r ∷ roots) are none = absurd are
no_bodies_of (b ∷ bodies) roots are none = absurd (cc)

-- root logs of which one has the newest root have bodies
pub some_bodies : (bodies : ℕ → List (List ℕ)) (found : Newest) → IsNewestRoot bodies found
    → (bodies 2 ≡ []) × (bodies 3 ≡ []) → ⊥
some_bodies bodies found newest none =
    let finds = newest.newest in
    let all = finds.found.newest in
    omega (
      arith,
      ap length (no_bodies_of (bodies 2) finds.roots_0 finds.first_log none.0),
      ap length (no_bodies_of (bodies 3) finds.roots_1 finds.second_log none.1),
      ap length all.whole,
      length-append finds.roots_0 finds.roots_1,
      length-append all.before (found.root ∷ all.behind),
    )

-- a root log has a root
pub is_taken : (image : Image) (two three : List (List ℕ)) → HasFrames two (image 2) → HasFrames three (image 3)
    → AreRootBodies two → AreRootBodies three → ((two ≡ []) × (three ≡ []) → ⊥) → IsTaken image
is_taken image [] three has also are_two are_three some = (
  ([], has, are_two),
  (three, also, are_three),
  record {
    file = 3;
    bodies = three;
    root_log = inr refl;
    frames = also;
    some = λ none. some (refl, none);
  },
)
is_taken image (b ∷ two) three has also are_two are_three some = (
  (b ∷ two, has, are_two),
  (three, also, are_three),
  record {
    file = 2;
    bodies = b ∷ two;
    root_log = inl refl;
    frames = has;
    some = λ (none : b ∷ two ≡ []). cc;
  },
)

-- logs without roots are none that are used
pub not_used : (image : Image) → HasNoRoot image → IsUsed image → ⊥
not_used image none (inl (two, three, root)) = ⊎_elim
    (λ is. root.some (frames_are_one root.bodies [] (image 2)
    (subst (λ n. HasFrames root.bodies (image n)) is root.frames) none.0))
    (λ is. root.some (frames_are_one root.bodies [] (image 3)
    (subst (λ n. HasFrames root.bodies (image n)) is root.frames) none.1))
    root.root_log
not_used image none (inr (file, place, inl bad)) = root_log_is_whole (image 2) place ([], none.0, ([], tt)) bad.1
not_used image none (inr (file, place, inr bad)) = root_log_is_whole (image 3) place ([], none.1, ([], tt)) bad.2

-- nothing is shown without a root
no_root_shown : (files : Files) (c : Image) → HasNoRoot c → (base : Base) → Shows files c base → ⊥
no_root_shown files c none base shows = nothing_is_shown files shows.bodies c base shows.has
    (frames_are_one (shows.bodies 2) [] (c 2) (shows.has 2 (omega arith)) none.0)
    (frames_are_one (shows.bodies 3) [] (c 3) (shows.has 3 (omega arith)) none.1) shows

no_more : (bytes : List ℕ) → MayHave [] [] bytes → HasFrames [] bytes
no_more bytes (inl has) = has
no_more bytes (inr has) = has

-- log 2 has the first root alone
first_alone : (body : List ℕ) (c : Image) → HasFrames (body ∷ []) (c 2) → MayHaveBodies no_bodies (only_body 2 body) c
    → MayHaveBodies (only_body 2 body) no_bodies c
first_alone body c one has zero lt = has 0 lt
first_alone body c one has (suc zero) lt = has 1 lt
first_alone body c one has (suc (suc zero)) lt = inl one
first_alone body c one has (suc (suc (suc zero))) lt = has 3 lt
first_alone body c one has (suc (suc (suc (suc n)))) lt = absurd (omega (arith, lt))

-- an image shows what one at the start showed, or nothing, or the empty base
abbrev IsMade : {D : Type 0} → Disk.Ghosts D → Settings → D → Files → Image → Type 0
IsMade of_disk settings old files c = ((d : Image) × of_disk.may_leave old d × ShowsAs files d c)
    ⊎ (((base : Base) → Shows files c base → ⊥) ⊎ Shows files c (empty_base (settings_of settings)))

-- nothing is owed where the other logs have no frames
none_owed : (a b x y : Bool) → x ≡ false → y ≡ false → (if a && x then 1 else 0) + (if b && y then 1 else 0) ≡ 0
none_owed true true x y none also = rw (none, also) refl
none_owed true false x y none also = rw none refl
none_owed false true x y none also = rw also refl
none_owed false false x y none also = refl

no_frames : (log : Log) → IsEmpty log → has_frames log ≡ false
no_frames log empty = subst (λ n. nat_lt 0 n ≡ false) (sym empty) refl

-- what was broken off stays so where the log is up
kept_off : (log : Log) (before : Option BrokenOff) → IsUp log → broken_off_at log.state broken.Root before ≡ before
kept_off log before up = subst (λ s. broken_off_at s broken.Root before ≡ before) (sym up) refl

module _ {D : Type 0} (of_disk : Disk.Ghosts D) (settings : Settings) where
  -- while the journals are made empty
  pub blank_shown : (old mid new : D) → OnlyRead of_disk old mid
      → Since of_disk mid new (λ c. of_disk.may_leave mid c ⊎ HasNoRoot c)
      → MakesShown of_disk (settings_of settings) old new
  blank_shown old mid new read all files =
      throughout_then _ _ _ _ _ _ (IsMade of_disk settings old files)
      (throughout_weaker _ _ _ _ (of_disk.may_leave old) (IsMade of_disk settings old files)
      read.images (λ c was. inl (c, was, λ base. ((λ is. is), (λ is. is)))))
      (throughout_weaker _ _ _ _ (λ c. of_disk.may_leave mid c ⊎ HasNoRoot c) (IsMade of_disk settings old files)
      all (λ c is. ⊎_elim (λ was. inl (c, read.fewer c was, λ base. ((λ is. is), (λ is. is))))
      (λ none. inr (inl (no_root_shown files c none))) is))

  module _ (body : List ℕ) (spelled : SpellsRoot body (first_root settings)) where
    -- the first root's frame is there or isn't
    first_shown : (files : Files) (c : Image) → MayHaveBodies no_bodies (only_body 2 body) c
        → ((base : Base) → Shows files c base → ⊥) ⊎ Shows files c (empty_base (settings_of settings))
    first_shown files c has = ⊎_elim
        (λ (none : HasFrames [] (c 2)).
        inl (no_root_shown files c (none, no_more (c 3) (has 3 (omega arith)))))
        (λ (one : HasFrames (body ∷ []) (c 2)). inr (told_is_shown files (only_body 2 body)
        (record { base = empty_base (settings_of settings); entries = [] }) 0 c
        (first_root_is_told files settings body 0 spelled (omega arith)).tells (omega arith)
        (first_alone body c one has)))
        (has 2 (omega arith))

    module _ {T : Type 0} (journal after : Journal) (mid new : D) (empty : IsEmptyJournal journal)
        (result : Result T LogRefusal) (appends : AppendsRoot of_disk body 0 journal after mid new result) where
      -- the first root goes to log 2
      pub first_appended : AppendsTo of_disk (root_log journal) (root_log after) body broken.Root journal after mid new
          result
      first_appended = subst
          (λ taken. AppendsTo of_disk taken (root_log after) body broken.Root journal after mid new result)
          (sym (empty_chosen (root_log journal) (other_of journal.roots) (root_log journal) (root_log journal)
          empty.roots.0 refl)) appends.appends

      first_adds : LogsRepresent of_disk journal mid no_bodies no_bodies
          → Adds of_disk 2 body after mid new no_bodies result
      first_adds represents = subst (λ n. Adds of_disk n body after mid new no_bodies result) empty.root
          (first_appended.frames no_bodies represents empty.up)

      other_root : other_of after.roots ≡ other_of journal.roots
      other_root = appends.other empty.up
          ∙ sym (empty_chosen (root_log journal) (root_log journal) (other_of journal.roots) (other_of journal.roots)
          empty.roots.0 refl)

      pub first_images : (old : D) → LogsRepresent of_disk journal mid no_bodies no_bodies
          → MakesShown of_disk (settings_of settings) old mid → MakesShown of_disk (settings_of settings) old new
      first_images old represents shown files =
          throughout_then _ _ _ _ _ _ (IsMade of_disk settings old files) (shown files)
          (throughout_weaker _ _ _ _ (MayHaveBodies no_bodies (only_body 2 body)) (IsMade of_disk settings old files)
          (first_adds represents).any_moment (λ c has. inr (first_shown files c has)))

    module _ {T : Type 0} (journal after : Journal) (mid new : D) (empty : IsEmptyJournal journal) where
      -- no log is down where the first root was appended
      pub made_up : (v : T) → AppendsRoot of_disk {T = T} body 0 journal after mid new (Ok v) → AreUp after
      made_up v appends =
          let first = first_appended {T = T} journal after mid new empty (Ok v) appends in
          let other = other_root {T = T} journal after mid new empty (Ok v) appends in (
            subst pair.AreUp (sym appends.entries) empty.up.0,
            ((first.answer empty.up).answer.1, subst IsUp (sym other) empty.up.1.1),
          )

      -- nothing is broken off then
      pub made_whole : (v : T) → AppendsRoot of_disk {T = T} body 0 journal after mid new (Ok v) → after.broken_off ≡ None
      made_whole v appends =
          let first = first_appended {T = T} journal after mid new empty (Ok v) appends in
          first.broken empty.up
          ∙ kept_off (root_log after) journal.broken_off (first.answer empty.up).answer.1
          ∙ empty.whole

      -- the first root is in place, and nothing else
      pub made : (v : T) → AppendsRoot of_disk {T = T} body 0 journal after mid new (Ok v)
          → LogsRepresent of_disk journal mid no_bodies no_bodies → Made of_disk settings new after
      made v appends represents =
          let other = other_root {T = T} journal after mid new empty (Ok v) appends in
          let adds = first_adds {T = T} journal after mid new empty (Ok v) appends represents in
          record {
            body = body;
            first = spelled;
            up = made_up v appends;
            represents = adds.now;
            current = ap (λ entries. file_of (pair.current_of entries)) appends.entries ∙ empty.current;
            owes = none_owed (has_frames (root_log after)) (is_none after.frozen) (has_frames (other_of after.roots))
                (has_frames (other_of after.entries))
                (no_frames (other_of after.roots) (subst IsEmpty (sym other) empty.roots.1))
                (no_frames (other_of after.entries)
                (subst (λ entries. IsEmpty (other_of entries)) (sym appends.entries) empty.entries.1));
          }

      -- the first root is refused only if the disk fails
      first_refused : (why : LogRefusal) → AppendsRoot of_disk {T = T} body 0 journal after mid new (Err why)
          → Rose (of_disk.faults mid) (of_disk.faults new)
      first_refused log.Down appends =
          let first = first_appended {T = T} journal after mid new empty (Err log.Down) appends in
          absurd ((first.answer empty.up).answer.0 empty.up.1.0)
      first_refused (log.Long end) appends =
          let first = first_appended {T = T} journal after mid new empty (Err (log.Long end)) appends in
          let none : end_of (root_log journal) ≡ 0 = empty.roots.0 in
          let past : 2 ^ 62 < end_of (root_log journal) + 10 + length body = (first.answer empty.up).answer.2 in
          absurd (omega (arith, none, past, first_root_is_short settings body spelled))
      first_refused log.Fault appends =
          let first = first_appended {T = T} journal after mid new empty (Err log.Fault) appends in
          (first.answer empty.up).answer.2

      first_later : (why : LogRefusal) → AppendsRoot of_disk {T = T} body 0 journal after mid new (Err why)
          → of_disk.faults mid ≤ of_disk.faults new
      first_later why appends =
          ((first_appended {T = T} journal after mid new empty (Err why) appends).answer empty.up).later

      -- a fault is blamed for what it was
      pub first_cause : {X : Type 0} (old : D) (why : LogRefusal) (answer : Result X MakeRefusal)
          → of_disk.faults old ≤ of_disk.faults mid
          → AppendsRoot of_disk {T = T} body 0 journal after mid new (Err why)
          → IsErrAnd answer (λ e. e ≡ make.Fault)
          → Blames make.Fault (of_disk.faults old) (of_disk.faults new) answer
      first_cause old why (Ok v) later appends failed = absurd failed
      first_cause old why (Err e) later appends failed =
          let more = first_later why appends in
          let rose = first_refused why appends in
          record { later = omega (arith, later, more); rose = λ is. omega (arith, later, rose) }
