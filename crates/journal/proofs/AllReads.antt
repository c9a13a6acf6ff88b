-- The logs of a directory as they were read, and put together.
use Rattle.std.proofs.Common.{◌≡◌, ◌⊎◌, inl, inr, ◌≤◌, ◌∙◌, refl, sym, ap, subst, ℕ, zero, suc, Bool, true, false, IsTrue, None, List, [], IsSome, ⊎_elim, arith}
use Rattle.std.specs.Prelude.{if◌then◌else◌, ◌==◌, ◌&&◌, not}
use Rattle.disk_model.specs.Logs.{Image, Settled}
use Rattle.disk_model.specs.declared.disk.Disk
use Rattle.directory_meaning.specs.Bodies.{Bodies, HasBodies, Numbered}
use Rattle.directory_meaning.specs.Current.{Chooses}
use Rattle.directory_meaning.specs.Laws.{no_bodies}
use Rattle.directory_reading.specs.Reading.{IsNewestRoot, IsWithoutFiles, PlacesFiles}
use Rattle.directory_reading.specs.declared.newest.Newest.{Newest}
use Rattle.directory_reading.specs.declared.replay.Replay.{Replay}
use Rattle.frame_log.specs.LogStates.{IsUp, Represents, file_of}
use Rattle.frame_log.specs.declared.log.Log.{Log}
use Rattle.journal.specs.Assembling.{Assembles, IsEntryPair, IsRootPair, ReadsAll, next_of}
use Rattle.journal.specs.JournalStates.{root_log}
use Rattle.journal.specs.LogReading.{IsRead}
use Rattle.journal.specs.declared.opening.ReadAll.{ReadAll}
use Rattle.log_pair.specs.PairStates.{Both, IsPairOf, RepresentsAt, current_of, other_of}
use Rattle.log_pair.specs.declared.current.Current.{Current}
use Rattle.log_pair.specs.declared.current.Current.TheVariants.{First, Second}
use Rattle.log_pair.specs.declared.pair.LogPair.{LogPair}
use Rattle.journal.proofs.FourLogs.{root_log_of}
use Rattle.journal.proofs.ToldReads.{Replayed, history_of, history_told, is_base, root_told, told_at}

-- what both logs have, each pair of them has
both_in : (Has : Log → Type 0) (current : Current) (first second : Log) (pair : LogPair)
    → IsPairOf first second current pair → Has first → Has second → Both Has pair
both_in Has First first second pair (is, are) one two = (subst Has (sym is) one, subst Has (sym are) two)
both_in Has Second first second pair (is, are) one two = (subst Has (sym is) two, subst Has (sym are) one)

-- the same of the journals, and of the root logs, as they are paired
pub entries_in : (Has : Log → Type 0) (current : ℕ) (resets : Bool) (first second : Log) (pair : LogPair)
    → IsEntryPair first second current resets pair → Has first → Has second → Both Has pair
entries_in Has current resets = both_in Has (if (current == 0) && not resets then First else Second)

pub roots_in : (Has : Log → Type 0) (newest : ℕ) (first second : Log) (pair : LogPair)
    → IsRootPair first second newest pair → Has first → Has second → Both Has pair
roots_in Has newest = both_in Has (if newest == 2 then First else Second)

-- the number of an equal log
file_is : (log other : Log) (file : ℕ) → log ≡ other → file_of other ≡ file → file_of log ≡ file
file_is log other file same is = ap (λ (l : Log). file_of l) same ∙ is

-- the journal that is to take the next entry is the one that was chosen
next_is : (current : ℕ) (resets : Bool) (first second : Log) (pair : LogPair) → file_of first ≡ 0 → file_of second ≡ 1
    → current ≤ 1 → (IsTrue resets → current ≡ 0) → IsEntryPair first second current resets pair
    → (if resets then file_of (other_of pair) else file_of (current_of pair)) ≡ current
next_is zero true first second pair zeroth next low none (is, are) = file_is (other_of pair) first 0 are zeroth
next_is zero false first second pair zeroth next low none (is, are) = file_is (current_of pair) first 0 is zeroth
next_is (suc zero) true first second pair zeroth next low none made = absurd (omega (arith, none refl))
next_is (suc zero) false first second pair zeroth next low none (is, are) = file_is (current_of pair) second 1 is next
next_is (suc (suc n)) resets first second pair zeroth next low none made = absurd (omega (arith, low))

-- the current root log is the one of the newest root
root_is : (newest : ℕ) (first second : Log) (pair : LogPair) → file_of first ≡ 2 → file_of second ≡ 3
    → (newest ≡ 2) ⊎ (newest ≡ 3) → IsRootPair first second newest pair → file_of (current_of pair) ≡ newest
root_is newest first second pair two three (inl is) made =
    let first_is : IsRootPair first second 2 pair = subst (λ n. IsRootPair first second n pair) is made in
    file_is (current_of pair) first 2 first_is.0 two ∙ sym is
root_is newest first second pair two three (inr is) made =
    let second_is : IsRootPair first second 3 pair = subst (λ n. IsRootPair first second n pair) is made in
    file_is (current_of pair) second 3 second_is.0 three ∙ sym is

-- where the first journal is to be reset, it takes the next entry
first_reset : (checkpoint : ℕ) (entries_0 entries_1 : List Numbered) (file : ℕ) (resets : Bool)
    → Chooses checkpoint entries_0 entries_1 file resets → IsTrue resets → file ≡ 0
first_reset checkpoint entries_0 entries_1 file resets chooses is = ⊎_elim
    (λ goes. absurd (let never = goes.0 in cc))
    (λ anew. (anew.neither is).0)
    chooses.next

-- a root that names files at no place names none
no_files : (gate : ℕ) (newest : Newest) → newest.files ≡ None → PlacesFiles gate newest.root newest.files
    → IsWithoutFiles newest.root
no_files gate newest none places = rw none at places

module _ {D : Type 0} (of_disk : Disk.Ghosts D) (old new : D) (bodies : Bodies) where
  -- a log that was read keeps its frames, if it was synced before
  represents_at : (file : ℕ) (log : Log) → IsRead of_disk file old new log (bodies file) → IsSome (of_disk.seen old)
      → Settled file (of_disk.seen old) (of_disk.may_leave old) → RepresentsAt of_disk new bodies no_bodies log
  represents_at file log read told settled =
      subst (λ n. Represents of_disk log new (bodies n) []) (sym read.opens.of_file)
      (read.opens.holds told settled).represents

  module _ (first second third fourth : Log) (journal_0 : IsRead of_disk 0 old new first (bodies 0))
      (journal_1 : IsRead of_disk 1 old new second (bodies 1)) (root_0 : IsRead of_disk 2 old new third (bodies 2))
      (root_1 : IsRead of_disk 3 old new fourth (bodies 3)) (found : Newest) (is : IsNewestRoot bodies found)
      (none : found.files ≡ None) (replay : Replay) (told : Replayed bodies found.root replay)
      (high : found.root.horizon ≤ replay.merge) (entries roots : LogPair)
      (journals : IsEntryPair first second replay.current replay.resets_first entries)
      (root_logs : IsRootPair third fourth found.file roots) (all : ReadAll)
      (assembles : Assembles entries roots found.root replay all) where
    -- the newest root names no files
    without : IsWithoutFiles found.root
    without = no_files found.gate found none is.files

    -- the journal of the next entry, and the root log of the newest root
    next : next_of all ≡ replay.current
    next =
        let chooses = told.replays.current in
        rw (assembles.resets, assembles.entry_logs) (next_is replay.current replay.resets_first first second entries
        journal_0.opens.of_file journal_1.opens.of_file chooses.journal
        (first_reset found.root.checkpoint told.entries_0 told.entries_1 replay.current replay.resets_first chooses)
        journals)

    root_now : file_of (root_log all.journal) ≡ found.file
    root_now = rw assembles.root_logs (root_is found.file third fourth roots root_0.opens.of_file root_1.opens.of_file
        (root_log_of is.newest.roots_0 is.newest.roots_1 found.root found.file is.k is.newest.found) root_logs)

    -- the image that was read, and the logs that were put together
    pub reads_all : (image : Image) → HasBodies bodies image → ReadsAll of_disk image old new all
    reads_all image has = record {
      read = bodies;
      has = has;
      up = (
        rw assembles.entry_logs (entries_in IsUp replay.current replay.resets_first first second entries journals
            journal_0.opens.up journal_1.opens.up),
        rw assembles.root_logs (roots_in IsUp found.file third fourth roots root_logs root_0.opens.up root_1.opens.up),
      );
      goes_on = record {
        entries_0 = told.entries_0;
        entries_1 = told.entries_1;
        first_journal = told.first_journal;
        second_journal = told.second_journal;
        chooses = rw (next, assembles.newest, assembles.resets) told.replays.current;
        last = rw (next, assembles.newest, assembles.last) told.replays.frozen;
        frozen = rw assembles.last assembles.frozen;
        newest = (is.k, rw (assembles.newest, root_now) is.newest);
      };
      represents = λ known settled. (
        rw assembles.entry_logs (entries_in (RepresentsAt of_disk new bodies no_bodies) replay.current
            replay.resets_first first second entries journals
            (represents_at 0 first journal_0 known (settled.each 0 (omega arith)))
            (represents_at 1 second journal_1 known (settled.each 1 (omega arith)))),
        rw assembles.root_logs (roots_in (RepresentsAt of_disk new bodies no_bodies) found.file
            third fourth roots root_logs
            (represents_at 2 third root_0 known (settled.each 2 (omega arith)))
            (represents_at 3 fourth root_1 known (settled.each 3 (omega arith)))),
      );
      history = history_of found.root replay;
      merge = replay.merge;
      scans = λ files. record {
        tells = history_told bodies found.root found.file is.k is.newest replay told files without high;
        newest = rw assembles.newest (root_told bodies found.root found.file is.k is.newest);
        base = rw assembles.newest (is_base files found.root without);
        entries = rw assembles.told refl;
        numbers = rw assembles.told told.replays.rises;
      };
      tells = λ files. rw (next, assembles.resets) (told_at bodies found.root found.file is.k is.newest replay told
          files without high replay.current replay.resets_first told.replays.current);
    }
