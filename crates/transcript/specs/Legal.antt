-- Which lists of turns may come about.
use Rattle.std.specs.Prelude.{ℕ, ◌≡◌, ◌<◌, ◌+◌, ◌*◌, ◌^◌, ◌⊎◌, Bool, true, false, IsTrue, List, length, take, slice_get, All, Option, Some, None, IfSome}
use Rattle.disk_model.specs.Causes.{Rose}
use Rattle.doc_model.specs.Operations.{AreOps}
use Rattle.doc_meaning.specs.History.{Base, front}
use Rattle.doc_meaning.specs.declared.replies.CommitReply.TheVariants as committed
use Rattle.doc_meaning.specs.declared.replies.ForgetReply.TheVariants as forgot
use Rattle.doc_meaning.specs.Replies.{commit_reply, forget_reply, look_reply}
use Rattle.transcript.specs.Turns.{Event, commit, forget, look, wish, start_save, start_merge, install_save, install_merge, abandon, tidy, revive}
use Rattle.transcript.specs.Turns.{Answer, commits, forgets, looks, starts, done, revives, down, busy, owed, nothing, spent, fault, memory}
use Rattle.transcript.specs.Turns.{Turn, Job, JobKind, save, merge, history_of, down_of, job_of}

-- a journal may have no room for one more entry only where the longest one at opening and 2^31 for each entry since,
-- this one among them, pass 2^62
abbrev pub MayBeFull : Base → ℕ → List Turn → Bool → Type 0
MayBeFull base longest before full =
    IsTrue full → 2 ^ 62 < longest + 2 ^ 31 * (length (history_of base before).entries + 1)

-- a start is busy exactly where a job is out, and names it
abbrev pub IsStart : Option Job → Answer → Type 0
IsStart (Some job) answer = answer ≡ busy job.number
IsStart None answer =
    ((n : ℕ) × ((answer ≡ starts n) ⊎ (answer ≡ owed n) ⊎ (answer ≡ nothing n) ⊎ (answer ≡ spent n))) ⊎ (answer ≡ fault)

-- an install is done, or finds no number left for a root, or fails
abbrev pub IsInstall : Answer → Type 0
IsInstall answer = (answer ≡ done) ⊎ ((n : ℕ) × (answer ≡ spent n)) ⊎ (answer ≡ fault)

-- what an event is answered behind turns, where memory suffices and no log fault stops it
abbrev pub AnswersEvent : Base → ℕ → List Turn → Event → Answer → Type 0
AnswersEvent base longest before (commit ops) answer =
    ((full : Bool) × MayBeFull base longest before full
    × (answer ≡ commits (commit_reply full (history_of base before) ops)))
    ⊎ ((answer ≡ fault)
    × (commit_reply false (history_of base before) ops ≡ committed.Entered (front (history_of base before) + 1)))
AnswersEvent base longest before (forget to) answer =
    ((full : Bool) × MayBeFull base longest before full
    × (answer ≡ forgets (forget_reply full (history_of base before) to)))
    ⊎ ((answer ≡ fault)
    × (forget_reply false (history_of base before) to ≡ forgot.Entered (front (history_of base before) + 1)))
AnswersEvent base longest before look answer = answer ≡ looks (look_reply (history_of base before))
AnswersEvent base longest before (wish what) answer = answer ≡ done
AnswersEvent base longest before start_save answer = IsStart (job_of before) answer
AnswersEvent base longest before start_merge answer = IsStart (job_of before) answer
AnswersEvent base longest before (install_save number) answer = IsInstall answer
AnswersEvent base longest before (install_merge number) answer = IsInstall answer
AnswersEvent base longest before (abandon number) answer = answer ≡ done
AnswersEvent base longest before tidy answer = (answer ≡ done) ⊎ (answer ≡ fault)
AnswersEvent base longest before revive answer =
    (answer ≡ revives (front (history_of base before)))
    ⊎ ((count : ℕ) × (down_of before ≡ Some count) × (answer ≡ fault))

-- the events that a log fault stops
abbrev pub is_stopped : Event → Bool
is_stopped (commit ops) = true
is_stopped (forget to) = true
is_stopped look = false
is_stopped (wish what) = false
is_stopped start_save = true
is_stopped start_merge = true
is_stopped (install_save number) = true
is_stopped (install_merge number) = true
is_stopped (abandon number) = false
is_stopped tidy = true
is_stopped revive = false

-- the events that take memory
abbrev pub takes_memory : Event → Bool
takes_memory (commit ops) = true
takes_memory (forget to) = true
takes_memory look = true
takes_memory (wish what) = false
takes_memory start_save = true
takes_memory start_merge = true
takes_memory (install_save number) = true
takes_memory (install_merge number) = true
takes_memory (abandon number) = false
takes_memory tidy = false
takes_memory revive = false

-- while a log is down, an event that this stops is answered with the count of the fault; all else as defined
abbrev pub UnlessDown : Bool → Option ℕ → Answer → Type 0 → Type 0
UnlessDown true (Some count) answer Defined = answer ≡ down count
UnlessDown true None answer Defined = Defined
UnlessDown false count answer Defined = Defined

-- an install or an abandon is of the job that is out, by the author whose start gave it, and an install of its kind
abbrev pub IsOfJob : Option Job → ℕ → Event → Type 0
IsOfJob job author (install_save number) = job ≡ Some (record { author = author; number = number; kind = save })
IsOfJob job author (install_merge number) = job ≡ Some (record { author = author; number = number; kind = merge })
IsOfJob job author (abandon number) =
    (kind : JobKind) × (job ≡ Some (record { author = author; number = number; kind = kind }))
IsOfJob job author (commit ops) = Unit {0}
IsOfJob job author (forget to) = Unit {0}
IsOfJob job author look = Unit {0}
IsOfJob job author (wish what) = Unit {0}
IsOfJob job author start_save = Unit {0}
IsOfJob job author start_merge = Unit {0}
IsOfJob job author tidy = Unit {0}
IsOfJob job author revive = Unit {0}

-- a log fault sets a count that rose above every count before it
abbrev pub Sets : List Turn → Option ℕ → Type 0
Sets before new = (count : ℕ) × (new ≡ Some count) × All (λ turn. IfSome turn.down (λ earlier. Rose earlier count)) before

-- a fault sets the count, and all else leaves it
abbrev pub IsDownByFault : List Turn → Answer → Option ℕ → Type 0
IsDownByFault before fault new = Sets before new
IsDownByFault before (commits reply) new = new ≡ down_of before
IsDownByFault before (forgets reply) new = new ≡ down_of before
IsDownByFault before (looks reply) new = new ≡ down_of before
IsDownByFault before (starts number) new = new ≡ down_of before
IsDownByFault before done new = new ≡ down_of before
IsDownByFault before (revives at) new = new ≡ down_of before
IsDownByFault before (down count) new = new ≡ down_of before
IsDownByFault before (busy number) new = new ≡ down_of before
IsDownByFault before (owed count) new = new ≡ down_of before
IsDownByFault before (nothing number) new = new ≡ down_of before
IsDownByFault before (spent number) new = new ≡ down_of before
IsDownByFault before memory new = new ≡ down_of before

-- a revive that succeeds takes it away, and one that fails sets it
abbrev pub IsDownByRevive : List Turn → Answer → Option ℕ → Type 0
IsDownByRevive before (revives at) new = new ≡ None
IsDownByRevive before fault new = Sets before new
IsDownByRevive before (commits reply) new = new ≡ down_of before
IsDownByRevive before (forgets reply) new = new ≡ down_of before
IsDownByRevive before (looks reply) new = new ≡ down_of before
IsDownByRevive before (starts number) new = new ≡ down_of before
IsDownByRevive before done new = new ≡ down_of before
IsDownByRevive before (down count) new = new ≡ down_of before
IsDownByRevive before (busy number) new = new ≡ down_of before
IsDownByRevive before (owed count) new = new ≡ down_of before
IsDownByRevive before (nothing number) new = new ≡ down_of before
IsDownByRevive before (spent number) new = new ≡ down_of before
IsDownByRevive before memory new = new ≡ down_of before

-- the count behind an event: a fault of a log sets it. The fault of a start is never a log's, and that of a tidy may be
abbrev pub IsDown : List Turn → Event → Answer → Option ℕ → Type 0
IsDown before (commit ops) answer new = IsDownByFault before answer new
IsDown before (forget to) answer new = IsDownByFault before answer new
IsDown before look answer new = IsDownByFault before answer new
IsDown before (wish what) answer new = IsDownByFault before answer new
IsDown before start_save answer new = new ≡ down_of before
IsDown before start_merge answer new = new ≡ down_of before
IsDown before (install_save number) answer new = IsDownByFault before answer new
IsDown before (install_merge number) answer new = IsDownByFault before answer new
IsDown before (abandon number) answer new = IsDownByFault before answer new
IsDown before tidy answer new = IsDownByFault before answer new ⊎ (new ≡ down_of before)
IsDown before revive answer new = IsDownByRevive before answer new

-- what a commit asks keeps the rules of operations
abbrev pub IsAsked : Event → Type 0
IsAsked (commit ops) = AreOps ops
IsAsked (forget to) = Unit {0}
IsAsked look = Unit {0}
IsAsked (wish what) = Unit {0}
IsAsked start_save = Unit {0}
IsAsked start_merge = Unit {0}
IsAsked (install_save number) = Unit {0}
IsAsked (install_merge number) = Unit {0}
IsAsked (abandon number) = Unit {0}
IsAsked tidy = Unit {0}
IsAsked revive = Unit {0}

-- a turn that may follow those before it
pub record IsTurn (base : Base) (longest : ℕ) (before : List Turn) (turn : Turn) : Type 0 where
  pub asked : IsAsked turn.call
  pub of_job : IsOfJob (job_of before) turn.author turn.call
  pub answers : (IsTrue (takes_memory turn.call) × (turn.answer ≡ memory))
      ⊎ UnlessDown (is_stopped turn.call) (down_of before) turn.answer
      (AnswersEvent base longest before turn.call turn.answer)
  pub is_down : IsDown before turn.call turn.answer turn.down

-- each turn may follow those before it; `longest` is the length of the longest journal at opening
abbrev pub AreLegal : Base → ℕ → List Turn → Type 0
AreLegal base longest turns =
    (k : ℕ) (turn : Turn) → slice_get turns k ≡ Some turn → IsTurn base longest (take k turns) turn
