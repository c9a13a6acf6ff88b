-- What a snapshot returns.
use Rattle.std.specs.Prelude.{ℕ, ◌≡◌, nat_lt, List, Option, Result, Ok, Err, ⊤, if◌then◌else◌}
use denote.Ref.{Bor}
use Rattle.std.specs.FinMap.{get}
use Rattle.std.specs.Option.{option_copied}
use Rattle.doc_engine.specs.declared.refusal.SearchRefusal.{SearchRefusal}
use Rattle.doc_engine.specs.declared.refusal.SearchRefusal.TheVariants as refusal
use Rattle.doc_engine.specs.declared.refusal.TooOld.{TooOld}
use Rattle.doc_meaning.specs.Answers.{answer_in}
use Rattle.doc_meaning.specs.History.{History, front, latest}
use Rattle.doc_meaning.specs.Replies.{unless_bad}
use Rattle.doc_meaning.specs.declared.replies.ReadReply.{ReadReply}
use Rattle.doc_meaning.specs.declared.replies.ReadReply.TheVariants as read
use Rattle.doc_meaning.specs.declared.version.Version.{Version}
use Rattle.doc_model.specs.Queries.{broken_query_rule}
use Rattle.doc_model.specs.declared.query.Query.{Query}
use Rattle.doc_model.specs.declared.refusal.QueryBad.{QueryBad}
use Rattle.doc_model.specs.declared.refusal.QueryBad.TheVariants as bad

-- the reply to a read at the front of a history, from a merge timestamp on: too old where that is past the front, else
-- what was found
abbrev pub read_since : {T : Type 0} → ℕ → History → T → ReadReply T
read_since merge h found = if nat_lt (front h) merge then read.Old (front h) merge else read.Found found

-- the reply to a search there: the rule that the query breaks, else what is read
abbrev pub search_since : ℕ → History → Query → ReadReply (List (List ℕ))
search_since merge h q =
    unless_bad (broken_query_rule q h.base.settings.indexes) (read_since merge h (answer_in (latest h) q))

-- the reply to a get there: the live version, or none
abbrev pub get_since : ℕ → History → List ℕ → ReadReply (Option Version)
get_since merge h uri = read_since merge h (get (latest h) uri)

-- a refusal of a query as one of the search; want of memory for it is want of memory for the search
abbrev pub refused_as : QueryBad → SearchRefusal
refused_as (bad.TooDeep limit) = refusal.Query (bad.TooDeep limit)
refused_as (bad.TooMany limit) = refusal.Query (bad.TooMany limit)
refused_as bad.BadDirectory = refusal.Query bad.BadDirectory
refused_as bad.NearChild = refusal.Query bad.NearChild
refused_as (bad.NoRange name kind) = refusal.Query (bad.NoRange name kind)
refused_as bad.Memory = refusal.Memory

-- a search returned this reply; want of memory is free
abbrev pub ReturnsSearch : ReadReply (List (List ℕ)) → Result (List (List ℕ)) SearchRefusal → Type 0
ReturnsSearch reply (Ok uris) = reply ≡ read.Found uris
ReturnsSearch reply (Err (refusal.Query why)) = reply ≡ read.Bad why
ReturnsSearch reply (Err (refusal.Old old)) = reply ≡ read.Old old.asked old.merge
ReturnsSearch reply (Err refusal.Memory) = ⊤

-- a get returned this reply
abbrev pub ReturnsGet : ReadReply (Option Version) → Result (Option (Bor Version)) TooOld → Type 0
ReturnsGet reply (Ok found) = reply ≡ read.Found (option_copied found)
ReturnsGet reply (Err old) = reply ≡ read.Old old.asked old.merge
