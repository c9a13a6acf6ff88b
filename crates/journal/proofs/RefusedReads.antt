-- Why the logs of a directory weren't read.
use Rattle.std.proofs.Common.{◌≡◌, inl, inr, ⊎_elim, ◌≤◌, ◌<◌, ℕ, Option, Some, None, IfSome, Result, Ok, Err, IfErr, MatchOption}
use Rattle.std.specs.Prelude.{IsErrAnd}
use Rattle.disk_model.specs.Logs.{Image}
use Rattle.disk_model.specs.declared.file_name.FileName.TheVariants.{Log, Sealed}
use Rattle.directory_meaning.specs.Bodies.{Bodies, HasBodies}
use Rattle.directory_meaning.specs.Damages.{BreaksTurn, DoNotFit, FindsNewest, gate_of}
use Rattle.directory_reading.specs.Reading.{IsNewestRoot, PlacesFiles}
use Rattle.directory_reading.specs.Unread.{IsUnread}
use Rattle.directory_reading.specs.declared.newest.Newest.{Newest}
use Rattle.directory_reading.specs.declared.replay.Replay.{Replay}
use Rattle.directory_reading.specs.declared.unread.LogBad.{LogBad}
use Rattle.directory_reading.specs.declared.unread.LogBad.TheVariants.{Damaged, Fault, Memory}
use Rattle.frame_log.specs.Calls.{Blames}
use Rattle.frame_log.specs.Frames.{HasFrames}
use Rattle.journal.specs.Assembling.{IsDamagedAt}
use Rattle.journal.specs.Refusals.{journal_refusal}
use Rattle.journal.specs.Refusing.{AreUnreadJournals, AreUnreadRoots, NotScanned}
use Rattle.journal.specs.declared.refusal.JournalRefusal.{JournalRefusal}
use Rattle.journal.specs.declared.refusal.JournalRefusal.TheVariants as refusal
use Rattle.journal_bodies.specs.Roots.{PlainRoot}
use Rattle.journal.proofs.ToldReads.{Replayed, below_horizon, root_told}

-- why a call failed, from why what it called failed
pub failed_by : {T : Type 0} (result : Result T JournalRefusal) (why : JournalRefusal) (P : JournalRefusal → Type 0)
    → IsErrAnd result (λ e. e ≡ why) → P why → IfErr result P
failed_by (Ok v) why P failed is = tt
failed_by (Err e) why P failed is = let same : e ≡ why = failed in rw same is

-- a root log breaks a rule
pub roots_unread : (image : Image) (why : LogBad) → AreUnreadRoots image why → NotScanned image (journal_refusal why)
roots_unread image Fault unread = tt
roots_unread image Memory unread = tt
roots_unread image (Damaged (Sealed number) place) unread = absurd unread
roots_unread image (Damaged (Log other) place) unread = inl (inl unread)

-- files that a root names are no fault of the disk
pub files_blame : {T : Type 0} (files : Option ℕ) (file : ℕ) (why : JournalRefusal) (result : Result T JournalRefusal)
    (before now : ℕ) → before ≤ now → MatchOption files ⊥ (IsDamagedAt file why) → IsErrAnd result (λ e. e ≡ why)
    → Blames refusal.Fault before now result
files_blame None file why result before now later bad failed = absurd bad
files_blame (Some place) file why (Ok v) before now later bad failed = absurd failed
files_blame (Some place) file why (Err e) before now later bad failed = record {
  later = later;
  rose = λ is. absurd (let same : e ≡ why = failed in cc);
}

-- the newest root, where there is one
pub newest_there : (bodies : Bodies) (none : Type 0) (newest : Option Newest) (found : Newest) → newest ≡ Some found
    → MatchOption newest none (IsNewestRoot bodies) → IsNewestRoot bodies found
newest_there bodies none newest found there is = rw there at is

-- what four facts of a value lead to, if there is one
pub if_some_four : {A : Type 0} {P Q R S X : A → Type 0} (o : Option A) → IfSome o P → IfSome o Q → IfSome o R
    → IfSome o S → ((x : A) → P x → Q x → R x → S x → X x) → IfSome o X
if_some_four None p q r s then_x = tt
if_some_four (Some x) p q r s then_x = then_x x p q r s

module _ (image : Image) (bodies : Bodies) (root_0 : HasFrames (bodies 2) (image 2))
    (root_1 : HasFrames (bodies 3) (image 3)) where
  -- the newest root names files, and is refused for that where it names them
  names_files : (files : Option ℕ) (root : PlainRoot) (file gate k : ℕ) (why : JournalRefusal)
      → MatchOption files ⊥ (IsDamagedAt file why) → PlacesFiles gate root files → gate ≡ gate_of (bodies file) k
      → FindsNewest bodies root file k → NotScanned image why
  names_files None root file gate k why bad places at newest = absurd bad
  names_files (Some place) root file gate k why bad (offset, names, placed) at newest =
      rw bad (inr (record {
        bodies = bodies;
        root = root;
        k = k;
        at = offset;
        first_log = root_0;
        second_log = root_1;
        newest = newest;
        names = names;
        placed = rw (← at) placed;
      }))

  module _ (found : Newest) (is : IsNewestRoot bodies found) where
    -- the same of the newest root that was read
    pub files_unread : (why : JournalRefusal) → MatchOption found.files ⊥ (IsDamagedAt found.file why)
        → NotScanned image why
    files_unread why bad =
        names_files found.files found.root found.file found.gate is.k why bad is.files is.gate is.newest

    -- a journal breaks a rule by itself
    pub journals_unread : (why : LogBad) → AreUnreadJournals image why → NotScanned image (journal_refusal why)
    journals_unread Fault unread = tt
    journals_unread Memory unread = tt
    journals_unread (Damaged (Sealed number) place) unread = absurd unread
    journals_unread (Damaged (Log other) place) unread = inl (inr (record {
      bodies = bodies;
      root = found.root;
      first_log = root_0;
      second_log = root_1;
      newest = root_told bodies found.root found.file is.k is.newest;
      breaks = ⊎_elim (λ first. inl first) (λ second. inr (inl second)) unread;
    }))

    module _ (has : HasBodies bodies image) where
      -- they break one together
      unfit : (other place : ℕ) → DoNotFit bodies found.root other place
          → NotScanned image (refusal.Damaged (Log other) place)
      unfit other place misfit = inl (inr (record {
        bodies = bodies;
        root = found.root;
        first_log = root_0;
        second_log = root_1;
        newest = root_told bodies found.root found.file is.k is.newest;
        breaks = inr (inr (has, misfit));
      }))

      -- an entry is misplaced
      pub turns_unread : (why : LogBad) → IsUnread (BreaksTurn bodies found.root) why
          → NotScanned image (journal_refusal why)
      turns_unread Fault unread = absurd unread
      turns_unread Memory unread = tt
      turns_unread (Damaged (Sealed number) place) unread = absurd unread
      turns_unread (Damaged (Log other) place) unread = unfit other place (inl unread)

      -- the merge timestamp is below the horizon
      pub horizon_unread : (replay : Replay) → Replayed bodies found.root replay → (why : JournalRefusal)
          → (replay.merge < found.root.horizon) × IsDamagedAt found.file why found.gate → NotScanned image why
      horizon_unread replay told why (low, bad) =
          rw bad (unfit found.file found.gate (inr (below_horizon bodies found.root found.file is.k is.newest replay
          told found.gate is.gate low)))
