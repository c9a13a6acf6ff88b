-- What the logs of a directory tell that were read.
use Rattle.std.proofs.Common.{◌≡◌, inl, ⊎_elim, ◌≤◌, ◌<◌, ◌+◌, ◌-◌, ◌∙◌, refl, sym, ap, ap₂, subst, ℕ, zero, suc, Bool, true, false, IsFalse, List, [], ◌∷◌, ◌++◌, length, map, replicate, length-append, arith}
use Rattle.std.specs.Prelude.{if◌then◌else◌, nat_le, ◌==◌}
use Rattle.std.specs.FinMap.{empty}
use Rattle.std.proofs.lemmas.Bool.{cond_both}
use Rattle.std.proofs.lemmas.List.{get_or-replicate, length-map, length-replicate}
use Rattle.disk_model.specs.Files.{Files}
use Rattle.doc_meaning.specs.History.{Base, History, front, settings_of}
use Rattle.directory_meaning.proofs.EmptyLemmas.{old_entries_do_not_count}
use Rattle.directory_meaning.specs.Bodies.{Bodies, IsJournal, Numbered, TellsEntries, TellsRoot, by_first_number, other_of, own_of, past}
use Rattle.directory_meaning.specs.Current.{Chooses, GoesOn, StartsAnew}
use Rattle.directory_meaning.specs.Damages.{FindsNewest, IsBelowHorizon, gate_of}
use Rattle.directory_meaning.specs.Shown.{IsBaseOf, IsCurrent, TakesNext, Tells, TellsAt, without_first}
use Rattle.directory_reading.specs.Reading.{IsWithoutFiles, Replays}
use Rattle.directory_reading.specs.declared.replay.Replay.{Replay}
use Rattle.journal_bodies.specs.Roots.{PlainRoot}

-- the entries of two journals, and their replay past a root's checkpoint
pub record Replayed (bodies : Bodies) (root : PlainRoot) (replay : Replay) : Type 0 where
  pub entries_0 : List Numbered
  pub entries_1 : List Numbered
  pub first_journal : IsJournal (bodies 0) entries_0
  pub second_journal : IsJournal (bodies 1) entries_1
  pub replays : Replays root entries_0 entries_1 replay

-- the base that a root without files tells: its databases are empty
abbrev pub base_of : PlainRoot → Base
base_of root = record {
  front = root.checkpoint;
  merge = root.horizon;
  settings = settings_of root.settings;
  databases = replicate (root.checkpoint + 1 - root.horizon) empty;
}

-- the history that a root and entries tell
abbrev pub history_of : PlainRoot → Replay → History
history_of root replay = record { base = base_of root; entries = map (λ e. e.1) replay.entries.items }

-- two journals in order have the entries of both
length_by_first_number : (some others : List Numbered)
    → length (by_first_number some others) ≡ length some + length others
length_by_first_number [] others = omega arith
length_by_first_number (e ∷ some) [] = omega (arith, length-append (e ∷ some) [])
length_by_first_number (e ∷ some) (f ∷ others) =
    cond_both (nat_le e.0 f.0) ((e ∷ some) ++ f ∷ others) ((f ∷ others) ++ e ∷ some)
    (λ l. length l ≡ length (e ∷ some) + length (f ∷ others)) (λ le. length-append (e ∷ some) (f ∷ others))
    (λ gt. omega (arith, length-append (f ∷ others) (e ∷ some)))

-- the entries past the checkpoint are counted alike, whichever journal is the current one
lengths_either : (b : Bool) (es fs : List Numbered) (checkpoint : ℕ)
    → length (past checkpoint es) + length (past checkpoint fs)
    ≡ length (past checkpoint (if b then fs else es)) + length (past checkpoint (if b then es else fs))
lengths_either true es fs checkpoint = omega arith
lengths_either false es fs checkpoint = omega arith

-- where neither journal has entries past the checkpoint, one of them has none
none_either : (b : Bool) (es fs : List Numbered) (checkpoint : ℕ) → past checkpoint es ≡ [] → past checkpoint fs ≡ []
    → past checkpoint (if b then es else fs) ≡ []
none_either true es fs checkpoint none also = none
none_either false es fs checkpoint none also = also

-- the journal that takes the next entry, by its number
is_current : (bodies : Bodies) (checkpoint end file : ℕ) (es fs : List Numbered) → file ≤ 1
    → IsJournal (bodies 0) es → IsJournal (bodies 1) fs
    → TakesNext checkpoint end (own_of file es fs) (other_of file es fs) → IsCurrent bodies checkpoint end file
is_current bodies checkpoint end zero es fs le journal also takes = record {
  own = es;
  other = fs;
  journal = le;
  own_journal = journal;
  other_journal = also;
  takes = takes;
}
is_current bodies checkpoint end (suc zero) es fs le journal also takes = record {
  own = fs;
  other = es;
  journal = le;
  own_journal = also;
  other_journal = journal;
  takes = takes;
}
is_current bodies checkpoint end (suc (suc n)) es fs le journal also takes = absurd (omega (arith, le))

-- the root that was found is the newest one
pub root_told : (bodies : Bodies) (root : PlainRoot) (file k : ℕ) → FindsNewest bodies root file k
    → TellsRoot bodies root
root_told bodies root file k found = record {
  roots_0 = found.roots_0;
  roots_1 = found.roots_1;
  first_log = found.first_log;
  second_log = found.second_log;
  newest = found.found.newest;
}

-- a root without files tells that base, whatever files are kept
pub is_base : (files : Files) (root : PlainRoot) → IsWithoutFiles root → IsBaseOf files root (base_of root)
is_base files root without = record {
  front = refl;
  horizon = refl;
  settings = refl;
  each = length-replicate (root.checkpoint + 1 - root.horizon) empty;
  databases = λ at low high. (
    without.0,
    get_or-replicate (root.checkpoint + 1 - root.horizon) (at - root.horizon) empty empty (omega (arith, low, high)),
  );
}

module _ (bodies : Bodies) (root : PlainRoot) (file k : ℕ) (found : FindsNewest bodies root file k) (replay : Replay)
    (told : Replayed bodies root replay) where
  -- the journals tell the entries that were replayed
  entries_told : TellsEntries bodies root.checkpoint (map (λ e. e.1) replay.entries.items)
  entries_told =
      let entries = told.replays.entries in
      record {
        entries_0 = told.entries_0;
        entries_1 = told.entries_1;
        first_journal = told.first_journal;
        second_journal = told.second_journal;
        rises = rw entries at told.replays.rises;
        entries = ap (map (λ (e : Numbered). e.1)) entries;
      }

  -- the root's horizon is above the merge timestamp
  pub below_horizon : (place : ℕ) → place ≡ gate_of (bodies file) k → replay.merge < root.horizon
      → IsBelowHorizon bodies root file place
  below_horizon place placed low =
      let merged = told.replays.merge in
      record {
        told = map (λ e. e.1) replay.entries.items;
        k = k;
        newest = found;
        entries = entries_told;
        rules = told.replays.rules;
        below = rw merged at low;
        placed = placed;
      }

  module _ (files : Files) (without : IsWithoutFiles root) (high : root.horizon ≤ replay.merge) where
    -- or it isn't: the logs tell the history
    pub history_told : Tells files bodies (history_of root replay) replay.merge
    history_told = record {
      root = root;
      newest = root_told bodies root file k found;
      base = is_base files root without;
      entries = entries_told;
      rules = told.replays.rules;
      merged = told.replays.merge;
      horizon = high;
    }

    -- the front is the checkpoint and the entries past it
    front_is : (b : Bool) → front (history_of root replay)
        ≡ root.checkpoint + length (past root.checkpoint (if b then told.entries_1 else told.entries_0))
        + length (past root.checkpoint (if b then told.entries_0 else told.entries_1))
    front_is b =
        let entries = told.replays.entries in
        let long = length-map replay.entries.items (λ (e : Numbered). e.1) in
        let all = length_by_first_number (past root.checkpoint told.entries_0) (past root.checkpoint told.entries_1) in
        omega (arith, long, all, lengths_either b told.entries_0 told.entries_1 root.checkpoint, ap length entries)

    -- where none is past the checkpoint, the history has no entry
    none_told : past root.checkpoint told.entries_0 ≡ [] → past root.checkpoint told.entries_1 ≡ []
        → map (λ (e : Numbered). e.1) replay.entries.items ≡ []
    none_told none also =
        let entries = told.replays.entries in
        let same : replay.entries.items ≡ [] = entries ∙ ap₂ by_first_number none also in
        ap (map (λ (e : Numbered). e.1)) same

    -- and an empty journal takes the next one
    takes_next : (to : ℕ) → StartsAnew root.checkpoint told.entries_0 told.entries_1 to false
        → TakesNext root.checkpoint (front (history_of root replay)) (own_of to told.entries_0 told.entries_1)
        (other_of to told.entries_0 told.entries_1)
    takes_next to anew =
        let b = to == 0 in
        let own = none_either b told.entries_0 told.entries_1 root.checkpoint anew.none.0 anew.none.1 in
        let other = none_either b told.entries_1 told.entries_0 root.checkpoint anew.none.1 anew.none.0 in
        record { rises = rw (own, other) refl; reaches = front_is b; next = inl (anew.empty refl) }

    -- the next entry goes where it was chosen
    pub told_at : (to : ℕ) (resets : Bool) → Chooses root.checkpoint told.entries_0 told.entries_1 to resets
        → TellsAt files (if resets then without_first bodies else bodies) to (history_of root replay) replay.merge
    told_at to true chooses = ⊎_elim
        (λ (goes : IsFalse true × GoesOn root.checkpoint (own_of to told.entries_0 told.entries_1)
        (other_of to told.entries_0 told.entries_1)). absurd (let never = goes.0 in cc))
        (λ (anew : StartsAnew root.checkpoint told.entries_0 told.entries_1 to true).
        let neither = anew.neither refl in
        subst (λ n. TellsAt files (without_first bodies) n (history_of root replay) replay.merge) (sym neither.0)
        (old_entries_do_not_count files bodies (history_of root replay) replay.merge history_told
        (none_told anew.none.0 anew.none.1)))
        chooses.next
    told_at to false chooses = record {
      tells = history_told;
      current = is_current bodies root.checkpoint (front (history_of root replay)) to told.entries_0 told.entries_1
          chooses.journal told.first_journal told.second_journal (⊎_elim
          (λ (goes : IsFalse false × GoesOn root.checkpoint (own_of to told.entries_0 told.entries_1)
          (other_of to told.entries_0 told.entries_1)).
          subst (λ n. TakesNext root.checkpoint n (own_of to told.entries_0 told.entries_1)
          (other_of to told.entries_0 told.entries_1)) (sym (front_is (to == 0))) goes.1.1)
          (takes_next to) chooses.next);
    }
