-- Turns: what one holder of the turn asks of the engine, and the engine's answer.
use Rattle.std.specs.Prelude.{ℕ, List, [], ◌∷◌, Option, Some, None}
use Rattle.std.specs.List.{flat_map}
use Rattle.doc_model.specs.declared.entry.Entry.{Entry}
use Rattle.doc_model.specs.declared.entry.Entry.TheVariants as entry
use Rattle.doc_model.specs.declared.op.Op.{Op}
use Rattle.doc_meaning.specs.History.{Base, History}
use Rattle.doc_meaning.specs.declared.replies.CommitReply.{CommitReply}
use Rattle.doc_meaning.specs.declared.replies.CommitReply.TheVariants as committed
use Rattle.doc_meaning.specs.declared.replies.ForgetReply.{ForgetReply}
use Rattle.doc_meaning.specs.declared.replies.ForgetReply.TheVariants as forgot
use Rattle.doc_meaning.specs.declared.replies.LookReply.{LookReply}
use Rattle.transcript.specs.declared.wish.Wish.{Wish}

-- the eleven events of the engine; an install and an abandon name the job, and who asks only what is due looks
pub data Event : Type 0 where
  commit : List Op → Event
  forget : ℕ → Event
  look : Event
  wish : Wish → Event
  start_save : Event
  start_merge : Event
  install_save : ℕ → Event
  install_merge : ℕ → Event
  abandon : ℕ → Event
  tidy : Event
  revive : Event

-- the answer to an event: a job's number where one is started, the front where the log is revived, the count of faults
-- where it is down; of starts and installs also the job that is out, how many files are owed, the number that leaves
-- nothing to do, and the number that is the last
pub data Answer : Type 0 where
  commits : CommitReply → Answer
  forgets : ForgetReply → Answer
  looks : LookReply → Answer
  starts : ℕ → Answer
  done : Answer
  revives : ℕ → Answer
  down : ℕ → Answer
  busy : ℕ → Answer
  owed : ℕ → Answer
  nothing : ℕ → Answer
  spent : ℕ → Answer
  fault : Answer
  memory : Answer

-- who asked what, the answer, and the count kept at the log fault behind it, if there is one
pub record Turn : Type 0 where
  pub author : ℕ
  pub call : Event
  pub answer : Answer
  pub down : Option ℕ

-- the entry that a commit makes, by its answer
abbrev pub entries_of_commit : List Op → Answer → List Entry
entries_of_commit ops (commits (committed.Entered at)) = entry.Commit ops ∷ []
entries_of_commit ops (commits (committed.Twice uri)) = []
entries_of_commit ops (commits (committed.Conflict uri found at)) = []
entries_of_commit ops (commits (committed.Spent at)) = []
entries_of_commit ops (forgets reply) = []
entries_of_commit ops (looks reply) = []
entries_of_commit ops (starts number) = []
entries_of_commit ops done = []
entries_of_commit ops (revives at) = []
entries_of_commit ops (down count) = []
entries_of_commit ops (busy number) = []
entries_of_commit ops (owed count) = []
entries_of_commit ops (nothing number) = []
entries_of_commit ops (spent number) = []
entries_of_commit ops fault = []
entries_of_commit ops memory = []

-- the entry that a forget makes, by its answer
abbrev pub entries_of_forget : ℕ → Answer → List Entry
entries_of_forget to (forgets (forgot.Entered at)) = entry.Forget to ∷ []
entries_of_forget to (forgets (forgot.Back t merged)) = []
entries_of_forget to (forgets (forgot.Ahead t at)) = []
entries_of_forget to (forgets (forgot.Spent at)) = []
entries_of_forget to (commits reply) = []
entries_of_forget to (looks reply) = []
entries_of_forget to (starts number) = []
entries_of_forget to done = []
entries_of_forget to (revives at) = []
entries_of_forget to (down count) = []
entries_of_forget to (busy number) = []
entries_of_forget to (owed count) = []
entries_of_forget to (nothing number) = []
entries_of_forget to (spent number) = []
entries_of_forget to fault = []
entries_of_forget to memory = []

-- the entry that an accepted commit or forget makes
abbrev pub entries_of : Event → Answer → List Entry
entries_of (commit ops) answer = entries_of_commit ops answer
entries_of (forget to) answer = entries_of_forget to answer
entries_of look answer = []
entries_of (wish what) answer = []
entries_of start_save answer = []
entries_of start_merge answer = []
entries_of (install_save number) answer = []
entries_of (install_merge number) answer = []
entries_of (abandon number) answer = []
entries_of tidy answer = []
entries_of revive answer = []

-- the history that turns make from a base: the entries of the accepted commits and forgets, in order
abbrev pub history_of : Base → List Turn → History
history_of base turns = record { base = base; entries = flat_map (λ turn. entries_of turn.call turn.answer) turns }

-- the count behind turns
abbrev pub down_after : Option ℕ → List Turn → Option ℕ
down_after count [] = count
down_after count (turn ∷ turns) = down_after turn.down turns

abbrev pub down_of : List Turn → Option ℕ
down_of turns = down_after None turns

-- what a job makes
pub data JobKind : Type 0 where
  save : JobKind
  merge : JobKind

-- a job that is out: whose start gave it, its number, and its kind
pub record Job : Type 0 where
  pub author : ℕ
  pub number : ℕ
  pub kind : JobKind

-- the job behind a start: the one that it gives out, or the one before
abbrev pub job_started : Option Job → ℕ → JobKind → Answer → Option Job
job_started job author kind (starts number) = Some (record { author = author; number = number; kind = kind })
job_started job author kind (commits reply) = job
job_started job author kind (forgets reply) = job
job_started job author kind (looks reply) = job
job_started job author kind done = job
job_started job author kind (revives at) = job
job_started job author kind (down count) = job
job_started job author kind (busy number) = job
job_started job author kind (owed count) = job
job_started job author kind (nothing number) = job
job_started job author kind (spent number) = job
job_started job author kind fault = job
job_started job author kind memory = job

-- the job behind an install or an abandon: none where it was done
abbrev pub job_ended : Option Job → Answer → Option Job
job_ended job done = None
job_ended job (commits reply) = job
job_ended job (forgets reply) = job
job_ended job (looks reply) = job
job_ended job (starts number) = job
job_ended job (revives at) = job
job_ended job (down count) = job
job_ended job (busy number) = job
job_ended job (owed count) = job
job_ended job (nothing number) = job
job_ended job (spent number) = job
job_ended job fault = job
job_ended job memory = job

-- a start gives a job out; an install or an abandon ends it
abbrev pub job_behind : Option Job → ℕ → Event → Answer → Option Job
job_behind job author (commit ops) answer = job
job_behind job author (forget to) answer = job
job_behind job author look answer = job
job_behind job author (wish what) answer = job
job_behind job author start_save answer = job_started job author save answer
job_behind job author start_merge answer = job_started job author merge answer
job_behind job author (install_save number) answer = job_ended job answer
job_behind job author (install_merge number) answer = job_ended job answer
job_behind job author (abandon number) answer = job_ended job answer
job_behind job author tidy answer = job
job_behind job author revive answer = job

abbrev pub job_after : Option Job → List Turn → Option Job
job_after job [] = job
job_after job (turn ∷ turns) = job_after (job_behind job turn.author turn.call turn.answer) turns

-- the job that is out behind turns
abbrev pub job_of : List Turn → Option Job
job_of turns = job_after None turns
