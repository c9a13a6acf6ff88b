-- What logs show that represent a history.
use Rattle.std.proofs.Common.{◌≡◌, ◌≢◌, ◌≤◌, ◌+◌, ℕ, List, [], ◌∷◌, ⊎_elim, inl, inr, refl, sym, subst, subst₂, ap, Option, None}
use Rattle.std.proofs.Common.{Some, arith}
use Rattle.std.proofs.lemmas.Bool.{cond-false, ne_eqb}
use Rattle.disk_model.specs.Files.{Files}
use Rattle.disk_model.specs.Logs.{Image}
use Rattle.disk_model.specs.declared.disk.Disk
use Rattle.doc_model.specs.declared.entry.Entry.{Entry}
use Rattle.doc_engine.specs.Laws.{RepresentedIsShown, UntouchedIsShown}
use Rattle.doc_engine.specs.Representing.{Leaves, MayFollow, RepresentsHistory, ShowsWith}
use Rattle.doc_meaning.specs.History.{AreEntries, Base, History, front, merge, shown}
use Rattle.frame_log.proofs.Steps.{leaves_may, leaves_shut}
use Rattle.frame_log.specs.Frames.{MayHave}
use Rattle.frame_log.specs.LogStates.{file_of}
use Rattle.frame_log.specs.declared.log.Log.{Log}
use Rattle.journal.specs.JournalStates.{current_log, current_of, root_log}
use Rattle.journal.specs.declared.broken_off.BrokenOff.TheVariants as broken
use Rattle.journal.specs.declared.journal.Journal.{Journal}
use Rattle.journal.proofs.Images.{entry_numbers, four_logs, may_have, root_numbers}
use Rattle.journal_bodies.specs.Entries.{SpellsEntry}
use Rattle.log_pair.specs.PairStates as pair
use Rattle.log_pair.specs.PairStates.{chosen, other_of}
use Rattle.log_pair.specs.declared.current.Current.{Current}
use Rattle.log_pair.specs.declared.current.Current.TheVariants.{First, Second}
use Rattle.log_pair.specs.declared.pair.LogPair.{LogPair}
use Rattle.directory_meaning.specs.Bodies.{Bodies, MayHaveBodies}
use Rattle.directory_meaning.specs.Laws.{no_bodies}
use Rattle.directory_meaning.specs.Shown.{Shows, TellsAt, only_body, shown_from}
use Rattle.directory_meaning.proofs.AlikeLemmas.{entries_go_on_alike}
use Rattle.directory_meaning.proofs.ShownLemmas.{kept_is_shown, told_is_shown}

-- two histories of which a reader sees the same have one front and one merge timestamp
pub front_same : (told h : History) (since : ℕ) → shown_from since told ≡ shown h → front told ≡ front h
front_same told h since same = ap (λ (b : Base). b.front) same

pub merge_same : (told h : History) (since : ℕ) → shown_from since told ≡ shown h → since ≡ merge h
merge_same told h since same = ap (λ (b : Base). b.merge) same

module _ (files : Files) (kept : Bodies) (file : ℕ) (told : History) (since : ℕ) (h : History)
    (same : shown_from since told ≡ shown h) (ordered : merge h ≤ front h) (tells : TellsAt files kept file told since)
    (image : Image) where
  -- an image with the frames that tell a history shows what is seen of it
  pub shows_told : MayHaveBodies kept no_bodies image → Shows files image (shown h)
  shows_told may = subst (Shows files image) same (told_is_shown files kept told since image tells.tells
      (omega (arith, ordered, front_same told h since same, merge_same told h since same)) may)

  -- or what is seen of it with an entry that may follow
  pub shows_entry : (body : List ℕ) (entry : Entry) → SpellsEntry body (front h + 1) entry
      → AreEntries (front h) (merge h) (entry ∷ []) → MayHaveBodies kept (only_body file body) image
      → ShowsWith files h (Some entry) image
  shows_entry body entry spelled are may =
      let fronts = front_same told h since same in
      let merges = merge_same told h since same in
      ⊎_elim
      (λ shows. inl (subst (Shows files image) same shows))
      (λ shows. inr (subst (Shows files image) (entries_go_on_alike h told since entry ordered same are) shows))
      (kept_is_shown files kept file told since body entry image tells (omega (arith, ordered, fronts, merges))
      (subst (λ n. SpellsEntry body (n + 1) entry) (sym fronts) spelled)
      (subst₂ (λ at low. AreEntries at low (entry ∷ [])) (sym fronts) (sym merges) are) may)

  pub shows_with : (pending : Option Entry) (more : Bodies) → Leaves file (front h + 1) pending more
      → MayFollow h pending
      → MayHaveBodies kept more image → ShowsWith files h pending image
  shows_with None more none follows may = shows_told (subst (λ m. MayHaveBodies kept m image) none may)
  shows_with (Some entry) more (body, spelled, is) follows may =
      shows_entry body entry spelled follows (subst (λ m. MayHaveBodies kept m image) is may)

-- the logs of a pair have two numbers
two_numbers : (current : Current) (first second : Log) → file_of second ≡ file_of first + 1
    → file_of (chosen current second first) ≢ file_of (chosen current first second)
two_numbers First first second next same = omega (arith, next, same)
two_numbers Second first second next same = omega (arith, next, same)

other_number : (logs : LogPair) → file_of (other_of logs) ≢ file_of (pair.current_of logs)
other_number logs = two_numbers logs.current logs.first logs.second logs.neighbours

-- an entry is pending in the current journal alone
more_there : (file number : ℕ) (pending : Option Entry) (more : Bodies) → Leaves file number pending more
    → (other : ℕ) → other ≢ file → more other ≡ []
more_there file number None more none other apart = rw none refl
more_there file number (Some entry) more (body, spelled, is) other apart =
    rw is (cond-false _ _ _ (ne_eqb other file apart))

module _ {D : Type 0} (of_disk : Disk.Ghosts D) where
  pub represented_is_shown : RepresentedIsShown of_disk
  represented_is_shown files journal disk h pending image represents left =
      shows_with files represents.kept (current_of journal) represents.told represents.since h represents.same
      represents.ordered represents.tells image pending represents.more represents.leaves represents.follows
      (may_have of_disk journal disk represents.kept represents.more image represents.represents left)

  module _ (files : Files) (journal : Journal) (disk : D) (h : History) (pending : Option Entry) (image : Image)
      (represents : RepresentsHistory of_disk files journal disk h pending) (left : of_disk.may_leave disk image) where
    -- a log apart from the current journal has the frames that are kept
    kept_apart : (log : Log) → pair.RepresentsAt of_disk disk represents.kept represents.more log
        → file_of log ≢ current_of journal
        → MayHave (represents.kept (file_of log)) [] (image (file_of log))
    kept_apart log is apart = subst (λ m. MayHave (represents.kept (file_of log)) m (image (file_of log)))
        (more_there (current_of journal) (front h + 1) pending represents.more represents.leaves (file_of log) apart)
        (leaves_may log.state (represents.kept (file_of log)) (represents.more (file_of log)) (image (file_of log))
        (is.images image left))

    -- and so has that one, where its gate wasn't touched
    kept_everywhere : journal.broken_off ≢ Some broken.Entry → MayHaveBodies represents.kept no_bodies image
    kept_everywhere whole =
        let log = current_log journal in
        let file = file_of log in
        let entries = entry_numbers journal in
        let roots = root_numbers journal in
        four_logs journal (λ k. MayHave (represents.kept k) [] (image k)) (
          inl (leaves_shut log.state (represents.kept file) (represents.more file) (image file)
              (λ touched. whole (journal.known.entry touched)) (represents.represents.0.0.images image left)),
          kept_apart (other_of journal.entries) represents.represents.0.1 (other_number journal.entries),
        ) (
          kept_apart (root_log journal) represents.represents.1.0
              (λ same. omega (arith, same, entries.0, roots.0)),
          kept_apart (other_of journal.roots) represents.represents.1.1
              (λ same. omega (arith, same, entries.0, roots.1)),
        )

  pub untouched_is_shown : UntouchedIsShown of_disk
  untouched_is_shown files journal disk h pending image represents whole left =
      shows_told files represents.kept (current_of journal) represents.told represents.since h represents.same
      represents.ordered represents.tells image
      (kept_everywhere files journal disk h pending image represents left whole)
