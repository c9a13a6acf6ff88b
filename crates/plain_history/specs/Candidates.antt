-- The documents of a database that an estimate counts.
use Rattle.std.specs.Prelude.{ℕ, List, map, filter}
use Rattle.std.specs.FinMap.{entries}
use Rattle.doc_model.specs.declared.query.Query.{Query}
use Rattle.doc_meaning.specs.declared.version.Version.{Version}
use Rattle.doc_meaning.specs.Estimates.{maybe}
use Rattle.doc_meaning.specs.History.{Database}

-- the URIs of those that pass the wider test of a query
abbrev pub candidates : List (List ℕ × Version) → Query → List (List ℕ)
candidates found q = map (λ e. e.0) (filter (λ e. maybe q e.1.document) found)

abbrev pub candidates_in : Database → Query → List (List ℕ)
candidates_in db q = candidates (entries db) q
