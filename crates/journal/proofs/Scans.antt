-- The logs of a directory, opened.
use Rattle.std.proofs.Common.{◌≡◌, ⊎_elim, ◌∙◌, refl, sym, ap, subst, ℕ, List, [], Bool, true, false, IsFalse, IsSome, Result, Ok}
use Rattle.std.specs.Prelude.{if◌then◌else◌}
use Rattle.disk_model.specs.Files.{Files}
use Rattle.disk_model.specs.Logs.{Image}
use Rattle.disk_model.specs.Stretches.{OnlyRead, Since}
use Rattle.disk_model.specs.declared.disk.Disk
use Rattle.doc_meaning.specs.History.{History}
use Rattle.directory_meaning.specs.Bodies.{Bodies, MayHaveBodies, Numbered, own_of}
use Rattle.directory_meaning.specs.Bodies.{other_of as at_other}
use Rattle.directory_meaning.specs.Current.{Chooses, GoesOn, StartsAnew}
use Rattle.directory_meaning.specs.Directories.{KeepsShown, ShowsAs}
use Rattle.directory_meaning.specs.Laws.{no_bodies}
use Rattle.directory_meaning.specs.Shown.{Tells, TellsAt, without_first}
use Rattle.directory_meaning.specs.declared.logs.TheConstants.{DIRECTORY_LOGS}
use Rattle.frame_log.specs.LogStates.{file_of}
use Rattle.frame_log.specs.declared.refusal.LogRefusal.{LogRefusal}
use Rattle.frame_log.proofs.Stretches.{throughout_then}
use Rattle.journal.specs.Assembling.{ReadsAll, next_of}
use Rattle.journal.specs.Calls.{Restarts, Revives}
use Rattle.journal.specs.JournalStates.{AreTrimmed, AreUp, LogsRepresent, current_of, root_log}
use Rattle.journal.specs.Opening.{Opened}
use Rattle.journal.specs.Reading.{AreSettled}
use Rattle.journal.specs.declared.journal.Journal.{Journal}
use Rattle.journal.specs.declared.opening.ReadAll.{ReadAll}
use Rattle.log_pair.specs.Bodies.{with_bodies}
use Rattle.log_pair.specs.PairStates.{other_of}
use Rattle.log_pair.specs.PairStates as pair
use Rattle.journal.proofs.Shows.{emptied_shows, kept_shows, read_shows}

-- the logs are ready for what was read: those that go on do so, and the first journal is empty if it was to be reset
pub record AreReady {D : Type 0} (of_disk : Disk.Ghosts D) (mid new : D) (all : ReadAll) (journal : Journal) :
    Type 0 where
  pub current : current_of journal ≡ next_of all
  pub root : file_of (root_log journal) ≡ file_of (root_log all.journal)
  pub frozen : journal.frozen ≡ all.journal.frozen
  pub up : AreUp journal
  pub trimmed : AreTrimmed journal (of_disk.seen new) (of_disk.may_leave new)
  pub represents : (kept : Bodies) → LogsRepresent of_disk all.journal mid kept no_bodies
      → LogsRepresent of_disk journal new (if all.resets_first then with_bodies kept (next_of all) [] else kept)
      no_bodies

-- the first journal is the one that is reset
first_taken : (checkpoint file : ℕ) (es fs : List Numbered) (resets : Bool) → resets ≡ true
    → Chooses checkpoint es fs file resets → file ≡ 0
first_taken checkpoint file es fs true is chooses = ⊎_elim
    (λ (goes : IsFalse true × GoesOn checkpoint (own_of file es fs) (at_other file es fs)).
    absurd (let never = goes.0 in cc))
    (λ (anew : StartsAnew checkpoint es fs file true). (anew.neither refl).0) chooses.next
first_taken checkpoint file es fs false is chooses = absurd (cc)

-- what it tells without its frames
told_lost : (files : Files) (resets : Bool) (read : Bodies) (file : ℕ) (h : History) (m : ℕ) → resets ≡ true
    → TellsAt files (if resets then without_first read else read) file h m → Tells files (without_first read) h m
told_lost files true read file h m is told = told.tells
told_lost files false read file h m is told = absurd (cc)

-- the journal that takes the next entry
next_other : (one two : ℕ) (resets : Bool) → resets ≡ true → (if resets then one else two) ≡ one
next_other one two true is = refl
next_other one two false is = absurd (cc)

next_current : (one two : ℕ) (resets : Bool) → resets ≡ false → (if resets then one else two) ≡ two
next_current one two true is = absurd (cc)
next_current one two false is = refl

emptied_bodies : (kept : Bodies) (file : ℕ) (resets : Bool) (P : Bodies → Type 0) → (resets ≡ true → file ≡ 0)
    → P (if resets then with_bodies kept file [] else kept) → P (if resets then without_first kept else kept)
emptied_bodies kept file true P first has = subst (λ n. P (with_bodies kept n [])) (first refl) has
emptied_bodies kept file false P first has = has

if_true : (one two : Bodies) (resets : Bool) (P : Bodies → Type 0) → resets ≡ true → P one
    → P (if resets then one else two)
if_true one two true P is has = has
if_true one two false P is has = absurd (cc)

if_false : (one two : Bodies) (resets : Bool) (P : Bodies → Type 0) → resets ≡ false → P two
    → P (if resets then one else two)
if_false one two true P is has = absurd (cc)
if_false one two false P is has = has

module _ {D : Type 0} (of_disk : Disk.Ghosts D) (all : ReadAll) (mid after : D) (revived : Journal) {T : Type 0} (v : T)
    (revives : Revives of_disk all.journal revived mid after (Ok v)) where
  -- the logs were brought back, and none is to be reset
  pub ready_revived : all.resets_first ≡ false
      → AreTrimmed revived (of_disk.seen after) (of_disk.may_leave after)
      → AreReady of_disk mid after all revived
  ready_revived is trimmed = record {
    current = revives.current.0 ∙ sym (next_current _ _ all.resets_first is);
    root = revives.root.0;
    frozen = revives.frozen;
    up = revives.answer.0;
    trimmed = trimmed;
    represents = λ kept represents. if_false (with_bodies kept (next_of all) []) kept all.resets_first
        (λ bodies. LogsRepresent of_disk revived after bodies no_bodies) is
        (revives.frames kept no_bodies represents).now;
  }

  -- the first journal was reset besides
  pub ready_restarted : {S : Type 0} (w : S) (new : D) (journal : Journal) → all.resets_first ≡ true
      → Restarts of_disk revived journal after new (Ok w)
      → AreTrimmed journal (of_disk.seen new) (of_disk.may_leave new)
      → AreReady of_disk mid new all journal
  ready_restarted w new journal is restarts trimmed =
      let next : file_of (other_of revived.entries) ≡ next_of all =
      revives.other.0 ∙ sym (next_other _ _ all.resets_first is) in
      record {
        current = restarts.answer.1 ∙ next;
        root = ap (λ roots. file_of (pair.current_of roots)) restarts.roots ∙ revives.root.0;
        frozen = restarts.frozen ∙ revives.frozen;
        up = restarts.answer.0;
        trimmed = trimmed;
        represents = λ kept represents. if_true (with_bodies kept (next_of all) []) kept all.resets_first
            (λ bodies. LogsRepresent of_disk journal new bodies no_bodies) is
            (subst (λ n. LogsRepresent of_disk journal new (with_bodies kept n []) no_bodies) next
            (restarts.frames kept (revives.frames kept no_bodies represents).now).now);
      }

module _ {D : Type 0} (of_disk : Disk.Ghosts D) (start old mid : D) (all : ReadAll) (image : Image)
    (reads : ReadsAll of_disk image old mid all) (told : IsSome (of_disk.seen old))
    (settled : AreSettled DIRECTORY_LOGS (of_disk.seen old) (of_disk.may_leave old)) where
  resets_first : all.resets_first ≡ true → next_of all ≡ 0
  resets_first is =
      let goes = reads.goes_on in
      first_taken all.scanned.root.checkpoint (next_of all) goes.entries_0 goes.entries_1 all.resets_first is
      goes.chooses

  -- logs that are ready are open
  pub opens : (new : D) (journal : Journal) → AreReady of_disk mid new all journal → (files : Files)
      → Opened of_disk files image new journal all.scanned
  opens new journal ready files =
      let goes = reads.goes_on in
      record {
        read = reads.read;
        history = reads.history;
        merge = reads.merge;
        resets = all.resets_first;
        has = reads.has;
        scans = reads.scans files;
        goes_on = record {
          entries_0 = goes.entries_0;
          entries_1 = goes.entries_1;
          first_journal = goes.first_journal;
          second_journal = goes.second_journal;
          chooses = rw ready.current goes.chooses;
          last = rw ready.current goes.last;
          frozen = ready.frozen ∙ goes.frozen;
          newest = rw ready.root goes.newest;
        };
        up = ready.up;
        represents = emptied_bodies reads.read (next_of all) all.resets_first
            (λ bodies. LogsRepresent of_disk journal new bodies no_bodies) resets_first
            (ready.represents reads.read (reads.represents told settled));
        tells = rw ready.current (reads.tells files);
        trimmed = ready.trimmed;
      }

  module _ (was : of_disk.may_leave start image) (only : OnlyRead of_disk start mid) (after : D) (revived : Journal)
    where
      -- while they are brought back an image shows what was read
      pub revived_shows : {T : Type 0} (result : Result T LogRefusal)
          → Revives of_disk all.journal revived mid after result → KeepsShown of_disk start after
      revived_shows result revives files = throughout_then _ _ _ _ _ _
          (λ c. (d : Image) × of_disk.may_leave start d × ShowsAs files d c) (read_shows of_disk start mid only files)
          (kept_shows of_disk start mid after image reads.read reads.history reads.merge was reads.has files
          (reads.scans files).tells
          (revives.frames reads.read no_bodies (reads.represents told settled)).any_moment)

      -- and while the first journal is reset
      pub restarted_shows : {T S : Type 0} (v : T) (result : Result S LogRefusal) (new : D) (journal : Journal)
          → all.resets_first ≡ true → Revives of_disk all.journal revived mid after (Ok v)
          → Restarts of_disk revived journal after new result → KeepsShown of_disk start new
      restarted_shows v result new journal is revives restarts files =
          let next : file_of (other_of revived.entries) ≡ 0 =
          revives.other.0 ∙ sym (next_other _ _ all.resets_first is) ∙ resets_first is in
          let frames = revives.frames reads.read no_bodies (reads.represents told settled) in
          let empties = restarts.frames reads.read frames.now in
          throughout_then _ _ _ _ _ _ (λ c. (d : Image) × of_disk.may_leave start d × ShowsAs files d c)
          (revived_shows (Ok v) revives files)
          (emptied_shows of_disk start after new image reads.read reads.history reads.merge was reads.has files
          (reads.scans files).tells
          (told_lost files all.resets_first reads.read (next_of all) reads.history reads.merge is (reads.tells files))
          (subst (λ n. Since of_disk after new
          (MayHaveBodies (with_bodies reads.read n []) (with_bodies no_bodies n (reads.read n)))) next
          empties.any_moment))
