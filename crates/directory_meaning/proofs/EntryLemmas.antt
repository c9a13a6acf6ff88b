-- One more entry behind those of a history, and what is shown from a merge timestamp on.
use Rattle.std.proofs.Common.{◌≡◌, ℕ, ◌+◌, ◌-◌, ◌≤◌, [], ◌∷◌, arith, length-append}
use Rattle.std.proofs.lemmas.List.FromFn.{get_or-map-range_with_len}
use Rattle.std.specs.FinMap.{empty}
use Rattle.doc_model.specs.declared.entry.Entry.{Entry}
use Rattle.doc_model.specs.declared.entry.Entry.TheVariants.{Commit, Forget}
use Rattle.doc_meaning.specs.History.{AreEntries, History, base_at, database_at, front, merge_after}
use Rattle.directory_meaning.specs.Shown.{shown_from, with_entry}

pub from_is_the_same : (m : ℕ) (h : History) (at : ℕ) → m ≤ at → at ≤ front h →
    base_at (shown_from m h) at ≡ database_at h at
from_is_the_same m h at low high = get_or-map-range_with_len (database_at h) m (front h + 1 - m) (at - m) at empty
    (omega arith) (omega arith)

pub front_push : (h : History) (e : Entry) → front (with_entry h e) ≡ front h + 1
front_push h e = omega (arith, length-append h.entries (e ∷ []))

pub merge_rises : (at low : ℕ) (e : Entry) → AreEntries at low (e ∷ []) → low ≤ merge_after low (e ∷ [])
merge_rises at low (Commit ops) are = omega arith
merge_rises at low (Forget to) are = are.0

merge_within : (at low : ℕ) (e : Entry) → low ≤ at → AreEntries at low (e ∷ []) → merge_after low (e ∷ []) ≤ at
merge_within at low (Commit ops) le are = le
merge_within at low (Forget to) le are = are.1

-- the merge timestamp doesn't go past the front
pub merge_push_within : (h : History) (m : ℕ) (e : Entry) → m ≤ front h → AreEntries (front h) m (e ∷ []) →
    merge_after m (e ∷ []) ≤ front (with_entry h e)
merge_push_within h m e le are = omega (arith, merge_within (front h) m e le are, front_push h e)
