-- Answers to queries.
use Rattle.std.specs.Prelude.{ℕ, List, map, filter, length}
use Rattle.std.specs.FinMap.{entries}
use Rattle.doc_model.specs.declared.query.Query.{Query}
use Rattle.doc_meaning.specs.declared.version.Version.{Version}
use Rattle.doc_meaning.specs.Estimates.{maybe}
use Rattle.doc_meaning.specs.History.{Database, History, database_at}
use Rattle.doc_meaning.specs.Meaning.{satisfies}

-- the URIs of the documents that satisfy a query, in their order
abbrev pub matching : List (List ℕ × Version) → Query → List (List ℕ)
matching found q = map (λ e. e.0) (filter (λ e. satisfies q e.1.document) found)

-- the same of a database, in the order of the bytes
abbrev pub answer_in : Database → Query → List (List ℕ)
answer_in db q = matching (entries db) q

-- the URIs of the documents at a timestamp that satisfy a query, in the order of their bytes
abbrev pub answer : History → ℕ → Query → List (List ℕ)
answer h at q = answer_in (database_at h at) q

-- how many documents of a database pass the wider test of a query
abbrev pub estimate_in : Database → Query → ℕ
estimate_in db q = length (filter (λ e. maybe q e.1.document) (entries db))

-- how many documents at a timestamp may satisfy a query
abbrev pub estimate : History → ℕ → Query → ℕ
estimate h at q = estimate_in (database_at h at) q
