-- Histories that show the same reply the same.
use Rattle.std.proofs.Common.{◌≡◌, ⊎_elim, ℕ, suc, ◌+◌, ◌<◌, ◌≤◌, Bool, true, false, ◌||◌, cond, leb, List, [], map, Option, None, Some, refl, sym, ap, ◌∙◌, arith}
use Rattle.std.proofs.lemmas.Bool.{cond-true}
use Rattle.std.proofs.lemmas.Bool.Decides.{leb_tells}
use Rattle.doc_model.specs.Queries.{broken_query_rule}
use Rattle.doc_model.specs.Operations.{uri_of}
use Rattle.doc_model.specs.declared.op.Op.{Op}
use Rattle.doc_model.specs.declared.query.Query.{Query}
use Rattle.doc_meaning.specs.declared.replies.ReadReply.{ReadReply}
use Rattle.doc_meaning.specs.declared.replies.ReadReply.TheVariants as read
use Rattle.doc_meaning.specs.declared.replies.CommitReply.{CommitReply}
use Rattle.doc_meaning.specs.declared.replies.CommitReply.TheVariants as commit
use Rattle.doc_meaning.specs.declared.replies.ForgetReply.{ForgetReply}
use Rattle.doc_meaning.specs.declared.replies.ForgetReply.TheVariants as forget
use Rattle.doc_meaning.specs.Answers.{answer_in, estimate_in}
use Rattle.doc_meaning.specs.Replies.{commit_reply, differs, first_twice, last_timestamp, live_stamp, unless_bad, unless_conflict, unless_twice}
use Rattle.std.specs.FinMap.{get}
use Rattle.std.specs.List.{find}
use Rattle.doc_meaning.specs.History.{Base, Database, History, base_at, database_at, front, latest, merge, shown}
use Rattle.doc_meaning.specs.ReplyLaws.{EntriesAreAlike, ReadsAreAlike}
use Rattle.doc_meaning.proofs.HistoryLemmas.{shown_is_the_same}

same_front : (h g : History) → shown h ≡ shown g → front h ≡ front g
same_front h g same = ap (λ (b : Base). b.front) same

same_merge : (h g : History) → shown h ≡ shown g → merge h ≡ merge g
same_merge h g same = ap (λ (b : Base). b.merge) same

same_database : (h g : History) → shown h ≡ shown g → (at : ℕ) → merge h ≤ at → at ≤ front h →
    database_at h at ≡ database_at g at
same_database h g same at low high =
    sym (shown_is_the_same h at low high) ∙ ap (λ b. base_at b at) same ∙
    shown_is_the_same g at (omega (arith, low, same_merge h g same)) (omega (arith, high, same_front h g same))

-- the reply to a read at a timestamp, by the merge timestamp and the front
abbrev reply_by : {T : Type 0} → ℕ → ℕ → ℕ → T → ReadReply T
reply_by low high at found =
    cond (leb (suc at) low) (read.Old at low) (cond (leb (suc high) at) (read.New at high) (read.Found found))

same_found : {T : Type 0} (low high at : ℕ) (f g : T) → (low ≤ at → at ≤ high → f ≡ g) →
    reply_by low high at f ≡ reply_by low high at g
same_found {T} low high at f g same = ⊎_elim
    (λ (old : (leb (suc at) low ≡ true) × (suc at ≤ low)). cond-true (leb (suc at) low) _ _ old.0 ∙
    sym (cond-true (leb (suc at) low) _ _ old.0))
    (λ (from : (leb (suc at) low ≡ false) × (low < suc at)). ap (λ r. cond (leb (suc at) low) (read.Old at low) r)
    (⊎_elim
    (λ (new : (leb (suc high) at ≡ true) × (suc high ≤ at)). cond-true (leb (suc high) at) _ _ new.0 ∙
    sym (cond-true (leb (suc high) at) _ _ new.0))
    (λ (till : (leb (suc high) at ≡ false) × (at < suc high)).
    ap (λ (x : T). cond (leb (suc high) at) (read.New at high) (read.Found x))
    (same (omega (arith, from.1)) (omega (arith, till.1))))
    (leb_tells (suc high) at)))
    (leb_tells (suc at) low)

-- what is read at a timestamp is the same, if it is the same of the databases
same_read : {T : Type 0} (of : Database → T) (h g : History) → shown h ≡ shown g → (at : ℕ) →
    reply_by (merge h) (front h) at (of (database_at h at)) ≡ reply_by (merge g) (front g) at (of (database_at g at))
same_read {T} of h g same at =
    same_found (merge h) (front h) at (of (database_at h at)) (of (database_at g at))
    (λ low high. ap of (same_database h g same at low high)) ∙
    ap (λ n. reply_by n (front h) at (of (database_at g at))) (same_merge h g same) ∙
    ap (λ n. reply_by (merge g) n at (of (database_at g at))) (same_front h g same)

same_query : {T : Type 0} (of : Database → T) (h g : History) → shown h ≡ shown g → (at : ℕ) (q : Query) →
    unless_bad (broken_query_rule q h.base.settings.indexes) (reply_by (merge h) (front h) at (of (database_at h at))) ≡
    unless_bad (broken_query_rule q g.base.settings.indexes) (reply_by (merge g) (front g) at (of (database_at g at)))
same_query of h g same at q =
    ap (λ (b : Base). unless_bad (broken_query_rule q b.settings.indexes)
    (reply_by (merge h) (front h) at (of (database_at h at)))) same ∙
    ap (unless_bad (broken_query_rule q g.base.settings.indexes)) (same_read of h g same at)

pub reads_are_alike : ReadsAreAlike
reads_are_alike h g same = (
  ap (λ (b : Base). record { front = b.front; merge = b.merge }) same,
  (λ at q. same_query (λ db. answer_in db q) h g same at q),
  (λ at q. same_query (λ db. estimate_in db q) h g same at q),
  (λ at uri. same_read (λ db. get db uri) h g same at),
)

-- the reply to a forget, by the merge timestamp and the front
abbrev forget_by : Bool → ℕ → ℕ → ℕ → ForgetReply
forget_by full low high at =
    cond (leb (suc at) low) (forget.Back at low) (cond (leb (suc high) at) (forget.Ahead at high)
    (cond (full || leb last_timestamp high) (forget.Spent high) (forget.Entered (high + 1))))

-- the reply to a commit, by the front and the database there
abbrev conflict_by : ℕ → Database → Option Op → CommitReply → CommitReply
conflict_by high db (Some op) reply = commit.Conflict (uri_of op) (live_stamp db (uri_of op)) high
conflict_by high db None reply = reply

abbrev commit_by : Bool → ℕ → Database → List Op → CommitReply
commit_by full high db ops = unless_twice (first_twice [] (map uri_of ops)) (conflict_by high db (find (differs db) ops)
    (cond (full || leb last_timestamp high) (commit.Spent high) (commit.Entered (high + 1))))

conflict_is : (h : History) (found : Option Op) (reply : CommitReply) →
    unless_conflict h found reply ≡ conflict_by (front h) (latest h) found reply
conflict_is h (Some op) reply = refl
conflict_is h None reply = refl

commit_is : (h : History) (full : Bool) (ops : List Op) →
    commit_reply full h ops ≡ commit_by full (front h) (latest h) ops
commit_is h full ops = ap (unless_twice (first_twice [] (map uri_of ops)))
    (conflict_is h (find (differs (latest h)) ops) _)

same_latest : (h g : History) → shown h ≡ shown g → merge h ≤ front h → latest h ≡ latest g
same_latest h g same ordered = same_database h g same (front h) ordered (omega arith) ∙
    ap (database_at g) (same_front h g same)

pub entries_are_alike : EntriesAreAlike
entries_are_alike h g full same = (
  (λ at. ap (λ (b : Base). forget_by full b.merge b.front at) same),
  (λ ordered ops. commit_is h full ops ∙ ap (λ n. commit_by full n (latest h) ops) (same_front h g same) ∙
      ap (λ db. commit_by full (front g) db ops) (same_latest h g same ordered) ∙ sym (commit_is g full ops)),
)
