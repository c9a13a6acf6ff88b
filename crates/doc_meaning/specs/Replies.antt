-- The replies to one thread at a history.
use Rattle.std.specs.Prelude.{ℕ, ◌+◌, ◌-◌, ◌^◌, Bool, false, not, ◌||◌, ◌==◌, nat_lt, nat_le, List, [], ◌∷◌, ◌++◌, map, Option, Some, None, if◌then◌else◌}
use Rattle.std.specs.FinMap.{get}
use Rattle.std.specs.List.{find}
use Rattle.std.specs.Option.{option_map_or}
use Rattle.doc_model.specs.Operations.{uri_of, expect_of}
use Rattle.doc_model.specs.Queries.{broken_query_rule}
use Rattle.doc_model.specs.Tree.{is_among}
use Rattle.doc_model.specs.declared.op.Op.{Op}
use Rattle.doc_model.specs.declared.query.Query.{Query}
use Rattle.doc_model.specs.declared.refusal.QueryBad.{QueryBad}
use Rattle.doc_meaning.specs.declared.replies.CommitReply.{CommitReply}
use Rattle.doc_meaning.specs.declared.replies.CommitReply.TheVariants as commit
use Rattle.doc_meaning.specs.declared.replies.ForgetReply.{ForgetReply}
use Rattle.doc_meaning.specs.declared.replies.ForgetReply.TheVariants as forget
use Rattle.doc_meaning.specs.declared.replies.LookReply.{LookReply}
use Rattle.doc_meaning.specs.declared.replies.ReadReply.{ReadReply}
use Rattle.doc_meaning.specs.declared.replies.ReadReply.TheVariants as read
use Rattle.doc_meaning.specs.declared.version.Version.{Version}
use Rattle.doc_meaning.specs.Answers.{answer, estimate}
use Rattle.doc_meaning.specs.History.{Database, History, front, merge, latest, database_at}

-- the first URI that is among those before it
abbrev pub first_twice : List (List ℕ) → List (List ℕ) → Option (List ℕ)
first_twice earlier [] = None
first_twice earlier (uri ∷ uris) = if is_among earlier uri then Some uri else first_twice (earlier ++ uri ∷ []) uris

-- the created stamp of the live version of a URI, 0 where there is none
abbrev pub live_stamp : Database → List ℕ → ℕ
live_stamp db uri = option_map_or (λ v. v.created) (get db uri) 0

-- the live version isn't the one that an operation expects
abbrev pub differs : Database → Op → Bool
differs db op = option_map_or (λ stamp. not (stamp == live_stamp db (uri_of op))) (expect_of op) false

-- timestamps end here
abbrev pub last_timestamp : ℕ
last_timestamp = 2 ^ 48 - 1

-- `full` says that the journal would pass its end with this entry
abbrev pub is_spent : Bool → History → Bool
is_spent full h = full || nat_le last_timestamp (front h)

-- a URI that is named twice comes first
abbrev pub unless_twice : Option (List ℕ) → CommitReply → CommitReply
unless_twice (Some uri) reply = commit.Twice uri
unless_twice None reply = reply

-- a conflict tells the stamp that is live, 0 for none
abbrev pub unless_conflict : History → Option Op → CommitReply → CommitReply
unless_conflict h (Some op) reply = commit.Conflict (uri_of op) (live_stamp (latest h) (uri_of op)) (front h)
unless_conflict h None reply = reply

-- a commit: a URI named twice, then a conflict, then the end of the timestamps or the logs, else the next timestamp
abbrev pub commit_reply : Bool → History → List Op → CommitReply
commit_reply full h ops =
    unless_twice (first_twice [] (map uri_of ops)) (unless_conflict h (find (differs (latest h)) ops)
    (if is_spent full h then commit.Spent (front h) else commit.Entered (front h + 1)))

-- a forget: back below the merge timestamp, then ahead of the front, then the end, else the next timestamp
abbrev pub forget_reply : Bool → History → ℕ → ForgetReply
forget_reply full h at =
    if nat_lt at (merge h) then forget.Back at (merge h)
    else if nat_lt (front h) at then forget.Ahead at (front h)
    else if is_spent full h then forget.Spent (front h)
    else forget.Entered (front h + 1)

-- a look: the front and the merge timestamp
abbrev pub look_reply : History → LookReply
look_reply h = record { front = front h; merge = merge h }

-- what is read at a timestamp from the merge timestamp to the front
abbrev pub reply_at : {T : Type 0} → History → ℕ → T → ReadReply T
reply_at h at found =
    if nat_lt at (merge h) then read.Old at (merge h)
    else if nat_lt (front h) at then read.New at (front h)
    else read.Found found

-- a rule that the query breaks comes first
abbrev pub unless_bad : {T : Type 0} → Option QueryBad → ReadReply T → ReadReply T
unless_bad (Some why) reply = read.Bad why
unless_bad None reply = reply

-- a search: the rules of a query, then the timestamp, else the answer
abbrev pub search_reply : History → ℕ → Query → ReadReply (List (List ℕ))
search_reply h at q = unless_bad (broken_query_rule q h.base.settings.indexes) (reply_at h at (answer h at q))

-- an estimate: the same, else the count
abbrev pub estimate_reply : History → ℕ → Query → ReadReply ℕ
estimate_reply h at q = unless_bad (broken_query_rule q h.base.settings.indexes) (reply_at h at (estimate h at q))

-- the version of a URI at a timestamp, or none
abbrev pub get_reply : History → ℕ → List ℕ → ReadReply (Option Version)
get_reply h at uri = reply_at h at (get (database_at h at) uri)
