-- A database before and after a commit that is staged: its puts are done, its removals aren't.
use Rattle.std.specs.Prelude.{ℕ, List, [], ◌∷◌, Option, Some, None, if◌then◌else◌}
use Rattle.std.specs.FinMap.{contains_key, insert, remove}
use Rattle.doc_model.specs.declared.op.Op.{Op}
use Rattle.doc_model.specs.declared.op.Op.TheVariants.{Put, Remove}
use Rattle.doc_meaning.specs.declared.version.Version.{Version}
use Rattle.doc_meaning.specs.History.{Database}
use Rattle.live_documents.specs.declared.staged.Replaced.{Replaced}
use Rattle.live_documents.specs.declared.staged.Staged.{Staged}

-- with a version in the place of the one that is live, if there is one
abbrev pub restored : List ℕ → Version → Database → Database
restored uri v db = if contains_key db uri then insert db uri v else db

-- with the version that was live, or with none
abbrev pub live_again : List ℕ → Option Version → Database → Database
live_again uri (Some v) db = restored uri v db
live_again uri None db = remove db uri

-- before a put
abbrev pub before_put : Replaced → Database → Database
before_put r db = live_again r.uri r.old db

-- before puts, of which the last is undone first
abbrev pub before_puts : List Replaced → Database → Database
before_puts [] db = db
before_puts (r ∷ rs) db = before_put r (before_puts rs db)

-- without these URIs
abbrev pub without : List (List ℕ) → Database → Database
without [] db = db
without (uri ∷ uris) db = without uris (remove db uri)

-- after the commit
abbrev pub settled : Staged → Database → Database
settled s db = without s.removals.items db

-- before it
abbrev pub undone : Staged → Database → Database
undone s db = before_puts s.replaced.items db

-- the URI that an operation removes
abbrev pub removed_by : Op → List (List ℕ)
removed_by (Put document expect) = []
removed_by (Remove uri expect) = uri ∷ []
