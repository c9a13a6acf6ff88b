-- Laws that the definitions keep.
use Rattle.std.specs.Prelude.{ℕ, ◌≡◌, ◌+◌, ◌<◌, ◌≤◌, ◌↔◌, IsTrue, Bool, false, List, [], ◌∷◌, ◌++◌, All, IsUtf8, map, length, Option, Some, None, slice_get}
use Rattle.std.specs.FinMap.{get}
use Rattle.std.specs.List.{AllAdjacentBelow}
use Rattle.std.specs.List.Sorted.{IsStrictlySortedBy}
use Rattle.std.specs.Cmp.Lexicographic.{slice_cmp}
use Rattle.std.specs.Ordering.{nat_cmp}
use Rattle.doc_model.specs.Documents.{PlainDocument}
use Rattle.doc_model.specs.Operations.{uri_of}
use Rattle.doc_model.specs.Queries.{Index, broken_query_rule}
use Rattle.doc_model.specs.Tree.{is_among, is_distinct}
use Rattle.doc_model.specs.declared.entry.Entry.{Entry}
use Rattle.doc_model.specs.declared.entry.Entry.TheVariants.{Commit}
use Rattle.doc_model.specs.declared.op.Op.{Op}
use Rattle.doc_model.specs.declared.op.Op.TheVariants.{Put, Remove}
use Rattle.doc_model.specs.declared.query.Query.{Query}
use Rattle.doc_model.specs.declared.query.Query.TheVariants.{And, Near}
use Rattle.doc_meaning.specs.Answers.{answer, estimate}
use Rattle.doc_meaning.specs.Estimates.{maybe, sure}
use Rattle.doc_meaning.specs.History.{History, IsBase, IsHistory, first, front, merge, latest, database_at, shown, base_at}
use Rattle.doc_meaning.specs.Meaning.{satisfies}
use Rattle.doc_meaning.specs.Near.{is_near, is_rising, IsNear}
use Rattle.doc_meaning.specs.Runs.{AreMaximalRuns}
use Rattle.doc_meaning.specs.Words.{words}

-- the words of a text are exactly its maximal runs of word characters
abbrev pub WordsAreMaximalRuns : Type 0
WordsAreMaximalRuns = (text : List ℕ) → IsUtf8 text → AreMaximalRuns text (words text)

-- the answer is in the order of the bytes of its URIs, and has none twice
abbrev pub AnswersAreSorted : Type 0
AnswersAreSorted = (h : History) (at : ℕ) (q : Query) → IsStrictlySortedBy (slice_cmp nat_cmp) (answer h at q)

-- further entries change no earlier database
abbrev pub LaterEntriesChangeNothing : Type 0
LaterEntriesChangeNothing = (h : History) (more : List Entry) (at : ℕ) → at ≤ front h →
    database_at (record h { entries = h.entries ++ more }) at ≡ database_at h at

-- a document satisfies an and-query exactly where it satisfies each child
abbrev pub AndSatisfiesEach : Type 0
AndSatisfiesEach = (queries : List Query) (d : PlainDocument) → IsTrue (satisfies (And queries) d) ↔ All (λ q. IsTrue (satisfies q d)) queries

-- near is a choice of one start per child
abbrev pub NearIsAChoice : Type 0
NearIsAChoice = (distance : ℕ) (ordered : Bool) (children : List (List ℕ)) →
    IsTrue (is_near distance ordered children) ↔ IsNear distance ordered children

-- numbers rise where each is below the next
abbrev pub RisingRises : Type 0
RisingRises = (ns : List ℕ) → IsTrue (is_rising ns) ↔ AllAdjacentBelow (λ n next. n < next) ns (length ns)

-- near holds with every greater distance
abbrev pub NearHoldsFurther : Type 0
NearHoldsFurther = (queries : List Query) (distance further : ℕ) (ordered : Bool) (d : PlainDocument) → distance ≤ further →
    IsTrue (satisfies (Near queries distance ordered) d) → IsTrue (satisfies (Near queries further ordered) d)

-- a document that passes the first test of a query that breaks no rule satisfies it
abbrev pub SureSatisfies : Type 0
SureSatisfies = (q : Query) (indexes : List Index) (d : PlainDocument) → broken_query_rule q indexes ≡ None →
    IsTrue (sure q d) → IsTrue (satisfies q d)

-- a document that satisfies a query that breaks no rule passes the second test
abbrev pub SatisfiesMaybe : Type 0
SatisfiesMaybe = (q : Query) (indexes : List Index) (d : PlainDocument) → broken_query_rule q indexes ≡ None →
    IsTrue (satisfies q d) → IsTrue (maybe q d)

-- no fewer are estimated than answered
abbrev pub EstimateIsNoLess : Type 0
EstimateIsNoLess = (h : History) (at : ℕ) (q : Query) (indexes : List Index) → broken_query_rule q indexes ≡ None →
    length (answer h at q) ≤ estimate h at q

-- the history with one more commit
abbrev pub with_commit : History → List Op → History
with_commit h ops = record h { entries = h.entries ++ Commit ops ∷ [] }

-- what a commit of distinct URIs puts is live at the new front, under the new timestamp
abbrev pub PutIsLive : Type 0
PutIsLive = (h : History) (ops : List Op) (k : ℕ) (document : PlainDocument) (expect : Option ℕ) →
    IsTrue (is_distinct (map uri_of ops)) → slice_get ops k ≡ Some (Put document expect) →
    get (latest (with_commit h ops)) document.uri ≡ Some (record { document = document; created = front h + 1 })

-- what a commit of distinct URIs removes is gone at the new front
abbrev pub RemovedIsGone : Type 0
RemovedIsGone = (h : History) (ops : List Op) (k : ℕ) (uri : List ℕ) (expect : Option ℕ) →
    IsTrue (is_distinct (map uri_of ops)) → slice_get ops k ≡ Some (Remove uri expect) →
    get (latest (with_commit h ops)) uri ≡ None

-- a URI that a commit doesn't name stays as it was
abbrev pub OthersStay : Type 0
OthersStay = (h : History) (ops : List Op) (uri : List ℕ) → is_among (map uri_of ops) uri ≡ false →
    get (latest (with_commit h ops)) uri ≡ get (latest h) uri

-- what is shown of a history has its front, merge timestamp and settings, and its databases from the one to the other
abbrev pub ShownIsTheSame : Type 0
ShownIsTheSame = (h : History) → ((shown h).front ≡ front h) × ((shown h).merge ≡ merge h) ×
    ((shown h).settings ≡ h.base.settings)
    × ((at : ℕ) → merge h ≤ at → at ≤ front h → base_at (shown h) at ≡ database_at h at)

-- what is shown of a history is a base again
abbrev pub ShownIsABase : Type 0
ShownIsABase = (h : History) → IsHistory h → IsBase (shown h)

-- the first entries have the same databases up to there
abbrev pub FirstIsTheSame : Type 0
FirstIsTheSame = (h : History) (to at : ℕ) → at ≤ to → database_at (first h to) at ≡ database_at h at

-- the first entries end at that timestamp
abbrev pub FirstEndsThere : Type 0
FirstEndsThere = (h : History) (at : ℕ) → h.base.front ≤ at → at ≤ front h → front (first h at) ≡ at
