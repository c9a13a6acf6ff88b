-- Laws of the first entries of a history, those up to a timestamp. Where they end, and their databases, are in Laws.
use Rattle.std.specs.Prelude.{ℕ, ◌≡◌, ◌≤◌}
use Rattle.doc_meaning.specs.declared.version.Version.{Version}
use Rattle.doc_meaning.specs.History.{History, IsHistory, IsVersion, first, merge}

-- the first entries of a history are one
abbrev pub FirstIsAHistory : Type 0
FirstIsAHistory = (h : History) (at : ℕ) → IsHistory h → IsHistory (first h at)

-- their merge timestamp is at most the timestamp where they end, and at most that of all
abbrev pub FirstMergesEarlier : Type 0
FirstMergesEarlier = (h : History) (at : ℕ) → IsHistory h → h.base.front ≤ at →
    (merge (first h at) ≤ at) × (merge (first h at) ≤ merge h)

-- the first of the first entries are the first of all
abbrev pub FirstOfFirst : Type 0
FirstOfFirst = (h : History) (to at : ℕ) → at ≤ to → first (first h to) at ≡ first h at

-- a version of the first entries is one of all
abbrev pub FirstVersionsStay : Type 0
FirstVersionsStay = (h : History) (at : ℕ) (v : Version) → IsVersion (first h at) v → IsVersion h v
