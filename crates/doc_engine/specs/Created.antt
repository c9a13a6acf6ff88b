-- When what is live was created.
use Rattle.std.specs.Prelude.{ℕ, ◌≡◌, ◌≤◌, List, Some}
use Rattle.std.specs.FinMap.{get}
use Rattle.doc_meaning.specs.History.{Database}
use Rattle.doc_meaning.specs.declared.version.Version.{Version}

-- each version was created by then
abbrev pub CreatedBy : ℕ → Database → Type 0
CreatedBy at db = (uri : List ℕ) (v : Version) → get db uri ≡ Some v → v.created ≤ at
