-- The replies to commands, by the answers to their turns and by the histories, and how many bytes they read.
use Rattle.std.specs.Prelude.{ℕ, List, [], ◌∷◌, ◌++◌, length, map, sum_by, Option, Some, None, if◌then◌else◌}
use Rattle.std.specs.FinMap.{entries, get}
use Rattle.std.specs.Option.{option_map_or}
use Rattle.doc_model.specs.Documents.{PlainDocument}
use Rattle.doc_model.specs.declared.query.Query.{Query}
use Rattle.doc_model.specs.declared.refusal.QueryBad.{QueryBad}
use Rattle.doc_model.specs.declared.refusal.QueryBad.TheVariants as bad
use Rattle.doc_meaning.specs.Estimates.{is_doubtful}
use Rattle.doc_meaning.specs.History.{History, front, database_at}
use Rattle.doc_meaning.specs.Replies.{search_reply, estimate_reply, get_reply}
use Rattle.doc_meaning.specs.declared.replies.CommitReply.TheVariants as committed
use Rattle.doc_meaning.specs.declared.replies.ForgetReply.TheVariants as forgot
use Rattle.doc_meaning.specs.declared.replies.ReadReply.{ReadReply}
use Rattle.doc_meaning.specs.declared.replies.ReadReply.TheVariants as read
use Rattle.doc_meaning.specs.declared.version.Version.{Version}
use Rattle.docs_format.specs.Spelling.{document}
use Rattle.json_text.specs.Canonical.{quoted, node_text}
use Rattle.json_text.specs.Grammar.{joined}
use Rattle.transcript.specs.Turns.{Answer, commits, forgets, looks, starts, done, revives, down, busy, owed, nothing, spent, fault, memory}
use Rattle.transcript.specs.declared.command.Command.{Command}
use Rattle.transcript.specs.declared.command.Command.TheVariants as command
use Rattle.transcript.specs.declared.command.When.TheVariants.{Front, At, Pinned}
use Rattle.transcript.specs.declared.reply.Reply.{Reply}
use Rattle.transcript.specs.declared.reply.Reply.TheVariants as reply

-- the reply to a commit, by the answer to its turn; none where this is no answer to a commit
abbrev pub reply_to_commit : Answer → Option Reply
reply_to_commit (commits (committed.Entered at)) = Some (reply.Ok at)
reply_to_commit (commits (committed.Twice uri)) = Some (reply.Twice uri)
reply_to_commit (commits (committed.Conflict uri found at)) = Some (reply.Conflict uri found at)
reply_to_commit (commits (committed.Spent at)) = Some (reply.Spent at)
reply_to_commit (down count) = Some reply.Down
reply_to_commit fault = Some reply.Fault
reply_to_commit memory = Some reply.Memory
reply_to_commit (forgets other) = None
reply_to_commit (looks other) = None
reply_to_commit (starts number) = None
reply_to_commit done = None
reply_to_commit (revives at) = None
reply_to_commit (busy number) = None
reply_to_commit (owed count) = None
reply_to_commit (nothing number) = None
reply_to_commit (spent number) = None

-- the reply to a forget
abbrev pub reply_to_forget : Answer → Option Reply
reply_to_forget (forgets (forgot.Entered at)) = Some (reply.Ok at)
reply_to_forget (forgets (forgot.Back t merged)) = Some (reply.Back t merged)
reply_to_forget (forgets (forgot.Ahead t at)) = Some (reply.Ahead t at)
reply_to_forget (forgets (forgot.Spent at)) = Some (reply.Spent at)
reply_to_forget (down count) = Some reply.Down
reply_to_forget fault = Some reply.Fault
reply_to_forget memory = Some reply.Memory
reply_to_forget (commits other) = None
reply_to_forget (looks other) = None
reply_to_forget (starts number) = None
reply_to_forget done = None
reply_to_forget (revives at) = None
reply_to_forget (busy number) = None
reply_to_forget (owed count) = None
reply_to_forget (nothing number) = None
reply_to_forget (spent number) = None

-- the reply to a revive
abbrev pub reply_to_revive : Answer → Option Reply
reply_to_revive (revives at) = Some (reply.Ok at)
reply_to_revive fault = Some reply.Fault
reply_to_revive (commits other) = None
reply_to_revive (forgets other) = None
reply_to_revive (looks other) = None
reply_to_revive (starts number) = None
reply_to_revive done = None
reply_to_revive (down count) = None
reply_to_revive (busy number) = None
reply_to_revive (owed count) = None
reply_to_revive (nothing number) = None
reply_to_revive (spent number) = None
reply_to_revive memory = None

-- a query that breaks a rule
abbrev pub reply_to_bad : QueryBad → Reply
reply_to_bad (bad.TooDeep limit) = reply.Deep
reply_to_bad (bad.TooMany limit) = reply.Many
reply_to_bad bad.BadDirectory = reply.Directory
reply_to_bad bad.NearChild = reply.Near
reply_to_bad (bad.NoRange name kind) = reply.NoRange (quoted name) kind
reply_to_bad bad.Memory = reply.Memory

-- what is read, where nothing refuses it
abbrev pub reply_to_read : {T : Type 0} → (T → Reply) → ReadReply T → Reply
reply_to_read say (read.Bad why) = reply_to_bad why
reply_to_read say (read.Old asked merged) = reply.Old asked merged
reply_to_read say (read.New asked at) = reply.New asked at
reply_to_read say (read.Found found) = say found

abbrev pub reply_to_search : Query → History → ℕ → Reply
reply_to_search q h at = reply_to_read (λ uris. reply.Found at (front h) uris) (search_reply h at q)

abbrev pub reply_to_estimate : Query → History → ℕ → Reply
reply_to_estimate q h at = reply_to_read (λ count. reply.Estimate count at (front h)) (estimate_reply h at q)

-- a version, its collections and its root as JSON texts
abbrev pub reply_of_version : ℕ → ℕ → Version → Reply
reply_of_version at latest v =
    reply.Doc v.created at latest
    (0x5B ∷ joined (map quoted v.document.collections) ++ 0x5D ∷ []) (node_text v.document.root)

abbrev pub reply_to_get : List ℕ → History → ℕ → Reply
reply_to_get uri h at =
    reply_to_read (λ found. option_map_or (reply_of_version at (front h)) found (reply.NoDoc at (front h))) (get_reply h at uri)

-- how many bytes of documents may be read to answer, where nothing refuses it
abbrev pub reads_found : {T : Type 0} → ReadReply T → ℕ → ℕ
reads_found (read.Found found) count = count
reads_found (read.Bad why) count = 0
reads_found (read.Old asked merged) count = 0
reads_found (read.New asked at) count = 0

-- a search reads its doubtful documents
abbrev pub reads_of_search : Query → History → ℕ → ℕ
reads_of_search q h at =
    reads_found (search_reply h at q)
    (sum_by (λ e. if is_doubtful q e.1.document then length (document e.1.document) else 0) (entries (database_at h at)))

-- a get reads its document
abbrev pub reads_of_get : List ℕ → History → ℕ → ℕ
reads_of_get uri h at =
    reads_found (get_reply h at uri) (option_map_or (λ v. length (document v.document)) (get (database_at h at) uri) 0)

-- how many bytes of documents a command may read at a history
abbrev pub reads_of : Command → History → ℕ
reads_of (command.Commit ops) h = 0
reads_of (command.Get uri Front) h = reads_of_get uri h (front h)
reads_of (command.Get uri (At t)) h = reads_of_get uri h t
reads_of (command.Get uri Pinned) h = reads_of_get uri h (front h)
reads_of (command.Search q Front) h = reads_of_search q h (front h)
reads_of (command.Search q (At t)) h = reads_of_search q h t
reads_of (command.Search q Pinned) h = reads_of_search q h (front h)
reads_of (command.Estimate q when) h = 0
reads_of command.Stamp h = 0
reads_of (command.Forget to) h = 0
reads_of command.Pin h = 0
reads_of command.Unpin h = 0
reads_of command.Save h = 0
reads_of command.Merge h = 0
reads_of command.Revive h = 0
reads_of command.Quit h = 0
