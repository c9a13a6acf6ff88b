-- Laws of the database at one timestamp and the next.
use Rattle.std.specs.Prelude.{ℕ, ◌≡◌, ◌+◌, Some, slice_get}
use Rattle.doc_model.specs.declared.entry.Entry.{Entry}
use Rattle.doc_model.specs.declared.entry.Entry.TheVariants.{Forget}
use Rattle.doc_meaning.specs.History.{History, after_entry, database_at}

-- the database at the timestamp of an entry is the one before it, changed by that entry
abbrev pub NextIsChanged : Type 0
NextIsChanged = (h : History) (k : ℕ) (entry : Entry) → slice_get h.entries k ≡ Some entry →
    database_at h (h.base.front + k + 1) ≡ after_entry (h.base.front + k + 1) entry (database_at h (h.base.front + k))

-- a forget changes no database
abbrev pub ForgetsChangeNothing : Type 0
ForgetsChangeNothing = (h : History) (k to : ℕ) → slice_get h.entries k ≡ Some (Forget to) →
    database_at h (h.base.front + k + 1) ≡ database_at h (h.base.front + k)
