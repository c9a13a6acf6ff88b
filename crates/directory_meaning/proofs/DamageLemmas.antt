-- An image is damaged in one log at one place, and not where it shows a base.
use Rattle.std.proofs.Common.{◌≡◌, inl, inr, ⊎_elim, ℕ, ◌<◌, List, sym, ap, ◌∙◌, subst, arith}
use Rattle.disk_model.specs.Files.{Files}
use Rattle.disk_model.specs.Logs.{Image}
use Rattle.doc_meaning.specs.History.{Base, History, merge_after}
use Rattle.frame_log.proofs.OneLemmas.{frames_are_one}
use Rattle.frame_log.specs.Frames.{HasFrames}
use Rattle.journal_bodies.specs.Roots.{PlainRoot}
use Rattle.directory_meaning.specs.Bodies.{AreRoots, Bodies, HasBodies, IsJournal, Numbered, TellsRoot}
use Rattle.directory_meaning.specs.Damages.{AreBadJournals, AreBadRootLogs, BreaksTurn, Damages, DoNotFit, FindsNewest, IsBelowHorizon, IsEntryLog, IsRootLog, JournalsBreak, gate_of}
use Rattle.directory_meaning.specs.Laws.{DamageIsOne, WhatIsShownIsNotDamaged}
use Rattle.directory_meaning.specs.Shown.{Shows, Tells}
use Rattle.directory_meaning.specs.declared.logs.TheConstants.{DIRECTORY_LOGS}
use Rattle.directory_meaning.proofs.BodyLemmas.{journal_breaks_once, journal_is_whole, root_log_breaks_once, root_log_is_whole}
use Rattle.directory_meaning.proofs.FitLemmas.{no_turn_broken, one_misfit, told_follow}
use Rattle.directory_meaning.proofs.OneLemmas.{one_frames, one_list_told, one_root_told, same_entries, same_journal, same_root}

-- ---- bodies that are the same log by log

-- what journals break with some bodies they break with the same bodies
module _ (some others : Bodies) (root : PlainRoot) (file place : ℕ)
    (same : (log : ℕ) → log < DIRECTORY_LOGS → some log ≡ others log) where
  same_gate : (k : ℕ) → file < DIRECTORY_LOGS → gate_of (some file) k ≡ gate_of (others file) k
  same_gate k known = ap (λ bodies. gate_of bodies k) (same file known)

  same_turn : BreaksTurn some root file place → BreaksTurn others root file place
  same_turn b = record {
    entries_0 = b.entries_0;
    entries_1 = b.entries_1;
    k = b.k;
    journal = b.journal;
    first_journal = same_journal (some 0) (others 0) b.entries_0 (same 0 (omega arith)) b.first_journal;
    second_journal = same_journal (some 1) (others 1) b.entries_1 (same 1 (omega arith)) b.second_journal;
    misplaced = b.misplaced;
    placed = b.placed ∙ same_gate b.k (omega (arith, b.journal));
  }

  same_newest : (k : ℕ) → FindsNewest some root file k → FindsNewest others root file k
  same_newest k found = record {
    roots_0 = found.roots_0;
    roots_1 = found.roots_1;
    first_log = subst (λ bodies. AreRoots bodies found.roots_0) (same 2 (omega arith)) found.first_log;
    second_log = subst (λ bodies. AreRoots bodies found.roots_1) (same 3 (omega arith)) found.second_log;
    found = found.found;
  }

  same_horizon : IsBelowHorizon some root file place → IsBelowHorizon others root file place
  same_horizon b = record {
    told = b.told;
    k = b.k;
    newest = same_newest b.k b.newest;
    entries = same_entries some others root.checkpoint b.told (same 0 (omega arith)) (same 1 (omega arith)) b.entries;
    rules = b.rules;
    below = b.below;
    placed = b.placed ∙ same_gate b.k known;
  }
    where
      known : file < DIRECTORY_LOGS
      known = ⊎_elim (λ first. omega (arith, first.0)) (λ second. omega (arith, second.0)) b.newest.found.here

  same_misfit : DoNotFit some root file place → DoNotFit others root file place
  same_misfit (inl b) = inl (same_turn b)
  same_misfit (inr b) = inr (same_horizon b)

-- ---- logs that are whole by themselves

-- both journals of an image are logs of entries
abbrev AreEntryLogs : Image → Type 0
AreEntryLogs image = IsEntryLog (image 0) × IsEntryLog (image 1)

entry_logs : (bodies : Bodies) (image : Image) (entries_0 entries_1 : List Numbered) → HasBodies bodies image →
    IsJournal (bodies 0) entries_0 → IsJournal (bodies 1) entries_1 → AreEntryLogs image
entry_logs bodies image entries_0 entries_1 has journal_0 journal_1 = (
  (bodies 0, has 0 (omega arith), (entries_0, journal_0)),
  (bodies 1, has 1 (omega arith), (entries_1, journal_1)),
)

misfit_logs : (bodies : Bodies) (image : Image) (root : PlainRoot) (file place : ℕ) → HasBodies bodies image →
    DoNotFit bodies root file place → AreEntryLogs image
misfit_logs bodies image root file place has (inl b) =
    entry_logs bodies image b.entries_0 b.entries_1 has b.first_journal b.second_journal
misfit_logs bodies image root file place has (inr b) =
    entry_logs bodies image b.entries.entries_0 b.entries.entries_1 has
    b.entries.first_journal b.entries.second_journal

-- both root logs are logs of roots
abbrev AreRootLogs : Image → Type 0
AreRootLogs image = IsRootLog (image 2) × IsRootLog (image 3)

root_logs : (bodies : Bodies) (image : Image) (root : PlainRoot) → HasFrames (bodies 2) (image 2) →
    HasFrames (bodies 3) (image 3) → TellsRoot bodies root → AreRootLogs image
root_logs bodies image root first second t = (
  (bodies 2, first, (t.roots_0, t.first_log)),
  (bodies 3, second, (t.roots_1, t.second_log)),
)

root_logs_are_whole : (image : Image) (file place : ℕ) → AreRootLogs image → AreBadRootLogs image file place → ⊥
root_logs_are_whole image file place logs (inl bad) = root_log_is_whole (image 2) place logs.0 bad.1
root_logs_are_whole image file place logs (inr bad) = root_log_is_whole (image 3) place logs.1 bad.2

-- ---- one place

root_logs_break_once : (image : Image) (file other place to : ℕ) → AreBadRootLogs image file place →
    AreBadRootLogs image other to → (file ≡ other) × (place ≡ to)
root_logs_break_once image file other place to (inl a) (inl b) =
    (a.0 ∙ sym b.0, root_log_breaks_once (image 2) place to a.1 b.1)
root_logs_break_once image file other place to (inl a) (inr b) =
    absurd (root_log_is_whole (image 2) place b.1 a.1)
root_logs_break_once image file other place to (inr a) (inl b) =
    absurd (root_log_is_whole (image 2) to a.1 b.1)
root_logs_break_once image file other place to (inr a) (inr b) =
    (a.0 ∙ sym b.0, root_log_breaks_once (image 3) place to a.2 b.2)

module _ (image : Image) (some others : Bodies) (root : PlainRoot) (file other place to : ℕ) where
  journals_break_once : JournalsBreak image some root file place → JournalsBreak image others root other to →
      (file ≡ other) × (place ≡ to)
  journals_break_once (inl a) (inl b) = (a.0 ∙ sym b.0, journal_breaks_once (image 0) place to a.1 b.1)
  journals_break_once (inl a) (inr (inl b)) = absurd (journal_is_whole (image 0) place b.1 a.1)
  journals_break_once (inl a) (inr (inr b)) =
      absurd (journal_is_whole (image 0) place (misfit_logs others image root other to b.0 b.1).0 a.1)
  journals_break_once (inr (inl a)) (inl b) = absurd (journal_is_whole (image 0) to a.1 b.1)
  journals_break_once (inr (inl a)) (inr (inl b)) =
      (a.0 ∙ sym b.0, journal_breaks_once (image 1) place to a.2 b.2)
  journals_break_once (inr (inl a)) (inr (inr b)) =
      absurd (journal_is_whole (image 1) place (misfit_logs others image root other to b.0 b.1).1 a.2)
  journals_break_once (inr (inr a)) (inl b) =
      absurd (journal_is_whole (image 0) to (misfit_logs some image root file place a.0 a.1).0 b.1)
  journals_break_once (inr (inr a)) (inr (inl b)) =
      absurd (journal_is_whole (image 1) to (misfit_logs some image root file place a.0 a.1).1 b.2)
  journals_break_once (inr (inr a)) (inr (inr b)) = one_misfit others root file other place to
      (same_misfit some others root file place (λ log known. one_frames some others image log a.0 b.0 known) a.1) b.1

-- the root logs of an image tell one root
one_root_shown : (some others : Bodies) (image : Image) (r s : PlainRoot) → HasFrames (some 2) (image 2) →
    HasFrames (some 3) (image 3) → HasFrames (others 2) (image 2) → HasFrames (others 3) (image 3) →
    TellsRoot some r → TellsRoot others s → r ≡ s
one_root_shown some others image r s first second third fourth tells told =
    one_root_told others r s (same_root some others r (frames_are_one (some 2) (others 2) (image 2) first third)
    (frames_are_one (some 3) (others 3) (image 3) second fourth) tells) told

bad_journals_once : (image : Image) (file other place to : ℕ) → AreBadJournals image file place →
    AreBadJournals image other to → (file ≡ other) × (place ≡ to)
bad_journals_once image file other place to a b =
    let root = one_root_shown a.bodies b.bodies image a.root b.root a.first_log a.second_log b.first_log b.second_log
    a.newest b.newest in
    journals_break_once image a.bodies b.bodies b.root file other place to
    (subst (λ r. JournalsBreak image a.bodies r file place) root a.breaks) b.breaks

behind_root_logs : (image : Image) (file place : ℕ) → AreBadJournals image file place → AreRootLogs image
behind_root_logs image file place b = root_logs b.bodies image b.root b.first_log b.second_log b.newest

pub damage_is_one : DamageIsOne
damage_is_one image file other place to (inl a) (inl b) = root_logs_break_once image file other place to a b
damage_is_one image file other place to (inl a) (inr b) =
    absurd (root_logs_are_whole image file place (behind_root_logs image other to b) a)
damage_is_one image file other place to (inr a) (inl b) =
    absurd (root_logs_are_whole image other to (behind_root_logs image file place a) b)
damage_is_one image file other place to (inr a) (inr b) = bad_journals_once image file other place to a b

-- ---- what is shown

-- journals that tell a history fit
tells_fits : (files : Files) (bodies : Bodies) (h : History) (m : ℕ) (t : Tells files bodies h m) (file place : ℕ) →
    DoNotFit bodies t.root file place → ⊥
tells_fits files bodies h m t file place (inl b) =
    no_turn_broken bodies t.root file place t.entries.entries_0 t.entries.entries_1 b
    t.entries.first_journal.spelled t.entries.second_journal.spelled
    (told_follow bodies t.root h.entries t.entries t.rules)
tells_fits files bodies h m t file place (inr b) =
    let told = one_list_told bodies t.root.checkpoint b.told h.entries b.entries t.entries in
    omega (arith, b.below, t.horizon, t.merged, ap (merge_after t.root.merge) told)

module _ (files : Files) (image : Image) (base : Base) (file place : ℕ) (shows : Shows files image base) where
  shown_logs : AreEntryLogs image
  shown_logs =
      let told = shows.tells.entries in
      entry_logs shows.bodies image told.entries_0 told.entries_1 shows.has told.first_journal told.second_journal

  shown_journals : (bodies : Bodies) → JournalsBreak image bodies shows.tells.root file place → ⊥
  shown_journals bodies (inl b) = journal_is_whole (image 0) place shown_logs.0 b.1
  shown_journals bodies (inr (inl b)) = journal_is_whole (image 1) place shown_logs.1 b.2
  shown_journals bodies (inr (inr b)) = tells_fits files shows.bodies shows.history shows.merge shows.tells file place
      (same_misfit bodies shows.bodies shows.tells.root file place
      (λ log known. one_frames bodies shows.bodies image log b.0 shows.has known) b.1)

  not_damaged : Damages image file place → ⊥
  not_damaged (inl bad) = root_logs_are_whole image file place (root_logs shows.bodies image shows.tells.root
      (shows.has 2 (omega arith)) (shows.has 3 (omega arith)) shows.tells.newest) bad
  not_damaged (inr bad) =
      let root = one_root_shown bad.bodies shows.bodies image bad.root shows.tells.root bad.first_log bad.second_log
      (shows.has 2 (omega arith)) (shows.has 3 (omega arith)) bad.newest shows.tells.newest in
      shown_journals bad.bodies (subst (λ r. JournalsBreak image bad.bodies r file place) root bad.breaks)

pub what_is_shown_is_not_damaged : WhatIsShownIsNotDamaged
what_is_shown_is_not_damaged files image base file place shows damages =
    not_damaged files image base file place shows damages
