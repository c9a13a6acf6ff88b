-- Laws of the versions of a history.
use Rattle.std.specs.Prelude.{ℕ, ◌≡◌, ◌≤◌, List, Some}
use Rattle.std.specs.FinMap.{get}
use Rattle.doc_meaning.specs.declared.version.Version.{Version}
use Rattle.doc_meaning.specs.History.{History, IsBase, IsHistory, IsVersion, database_at}

-- a URI and a created stamp determine a version
abbrev pub OneVersionPerStamp : Type 0
OneVersionPerStamp = (h : History) (v w : Version) → IsHistory h → IsVersion h v → IsVersion h w →
    v.document.uri ≡ w.document.uri → v.created ≡ w.created → v ≡ w

-- what a database has is a version, under its own URI
abbrev pub DatabasesHaveVersions : Type 0
DatabasesHaveVersions = (h : History) (at : ℕ) (uri : List ℕ) (v : Version) → IsBase h.base → h.base.merge ≤ at →
    get (database_at h at) uri ≡ Some v → IsVersion h v × (v.document.uri ≡ uri)
