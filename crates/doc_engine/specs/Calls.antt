-- What a commit returns, what the engine is then, and what a crash leaves.
use Rattle.std.specs.Prelude.{ℕ, ◌≡◌, ◌+◌, ◌≤◌, ◌^◌, false, nat_le, List, Option, Some, None, Result, Ok, Err}
use Rattle.std.specs.Prelude.{IfErr, IfSome, MatchResult, OnOk, ⊤}
use Rattle.disk_model.specs.Causes.{Rose}
use Rattle.disk_model.specs.declared.disk.Disk
use Rattle.disk_model.specs.declared.yard.Build
use Rattle.disk_model.specs.declared.yard.SealedFile
use Rattle.disk_model.specs.declared.yard.Yard
use Rattle.doc_model.specs.declared.entry.Entry.TheVariants.{Commit}
use Rattle.doc_model.specs.declared.op.Op.{Op}
use Rattle.doc_engine.specs.Checks.{IsShort, end_with}
use Rattle.doc_engine.specs.EngineState.{IsAt, disk_of, down_since, front_of, journal_of, yard_of}
use Rattle.doc_engine.specs.Representing.{ShowsWith, RepresentsHistory}
use Rattle.doc_engine.specs.declared.engine.Engine.{Engine}
use Rattle.doc_engine.specs.declared.refusal.CommitRefusal.{CommitRefusal}
use Rattle.doc_engine.specs.declared.refusal.CommitRefusal.TheVariants as refusal
use Rattle.doc_meaning.specs.History.{History, front}
use Rattle.doc_meaning.specs.Laws.{with_commit}
use Rattle.doc_meaning.specs.Replies.{commit_reply}
use Rattle.doc_meaning.specs.declared.replies.CommitReply.{CommitReply}
use Rattle.doc_meaning.specs.declared.replies.CommitReply.TheVariants as reply
use Rattle.frame_log.specs.LogStates.{IsUp, end_of}
use Rattle.disk_model.specs.Stretches.{Since}
use Rattle.disk_model.specs.Files.{Files}
use Rattle.journal.specs.JournalStates.{current_log}
use Rattle.log_pair.specs.PairStates.{other_of}
use Rattle.journal.specs.declared.journal.Journal.{Journal}

-- the reply that a result gives, if it gives one
abbrev pub reply_of : Result ℕ CommitRefusal → Option CommitReply
reply_of (Ok at) = Some (reply.Entered at)
reply_of (Err (refusal.Down faults)) = None
reply_of (Err (refusal.Twice uri)) = Some (reply.Twice uri)
reply_of (Err (refusal.Conflict uri found front)) = Some (reply.Conflict uri found front)
reply_of (Err (refusal.Spent front end)) = Some (reply.Spent front)
reply_of (Err refusal.Fault) = None
reply_of (Err refusal.Memory) = None

-- the history after a commit
abbrev pub history_after : History → List Op → Result ℕ CommitRefusal → History
history_after h ops (Ok at) = with_commit h ops
history_after h ops (Err why) = h

-- after a fault: the commit would have been entered
abbrev pub WouldEnter : History → List Op → Result ℕ CommitRefusal → Type 0
WouldEnter h ops (Ok at) = ⊤
WouldEnter h ops (Err (refusal.Down faults)) = ⊤
WouldEnter h ops (Err (refusal.Twice uri)) = ⊤
WouldEnter h ops (Err (refusal.Conflict uri found front)) = ⊤
WouldEnter h ops (Err (refusal.Spent front end)) = ⊤
WouldEnter h ops (Err refusal.Fault) = commit_reply false h ops ≡ reply.Entered (front h + 1)
WouldEnter h ops (Err refusal.Memory) = ⊤

-- all but a fault
abbrev pub UnlessFault : CommitRefusal → Type 0 → Type 0
UnlessFault (refusal.Down faults) same = same
UnlessFault (refusal.Twice uri) same = same
UnlessFault (refusal.Conflict uri found front) same = same
UnlessFault (refusal.Spent front end) same = same
UnlessFault refusal.Fault same = ⊤
UnlessFault refusal.Memory same = same

-- why a commit was refused, beside its reply: a log was down, or a fault raised the disk's count, which is kept
abbrev pub CommitRefused : Option ℕ → Option ℕ → ℕ → ℕ → CommitRefusal → Type 0
CommitRefused old new before after (refusal.Down faults) = old ≡ Some faults
CommitRefused old new before after (refusal.Twice uri) = old ≡ None
CommitRefused old new before after (refusal.Conflict uri found front) = old ≡ None
CommitRefused old new before after (refusal.Spent front end) = old ≡ None
CommitRefused old new before after refusal.Fault = (old ≡ None) × Rose before after × (new ≡ Some after)
CommitRefused old new before after refusal.Memory = old ≡ None

-- where the current journal ends then, and how much it grows or would grow
abbrev pub Grows : Journal → Journal → ℕ → List Op → Result ℕ CommitRefusal → Type 0
Grows old new number ops (Ok at) = (end_of (current_log new) ≡ end_with old number ops) × IsShort old number ops
Grows old new number ops (Err (refusal.Down faults)) = end_of (current_log new) ≡ end_of (current_log old)
Grows old new number ops (Err (refusal.Twice uri)) = end_of (current_log new) ≡ end_of (current_log old)
Grows old new number ops (Err (refusal.Conflict uri found front)) = end_of (current_log new) ≡ end_of (current_log old)
Grows old new number ops (Err (refusal.Spent front end)) = (end ≡ end_with old number ops) × IsShort old number ops
Grows old new number ops (Err refusal.Fault) = end_of (current_log new) ≡ end_of (current_log old)
Grows old new number ops (Err refusal.Memory) = end_of (current_log new) ≡ end_of (current_log old)

module _ {D : Type 0} (of_disk : Disk.Ghosts D) where
  -- what the logs represent after a commit
  abbrev pub RepresentsAfter : Files → Journal → D → History → List Op → Result ℕ CommitRefusal → Type 0
  RepresentsAfter files journal disk h ops (Ok at) =
      RepresentsHistory of_disk files journal disk (with_commit h ops) None
  RepresentsAfter files journal disk h ops (Err (refusal.Down faults)) =
      RepresentsHistory of_disk files journal disk h None
  RepresentsAfter files journal disk h ops (Err (refusal.Twice uri)) =
      RepresentsHistory of_disk files journal disk h None
  RepresentsAfter files journal disk h ops (Err (refusal.Conflict uri found front)) =
      RepresentsHistory of_disk files journal disk h None
  RepresentsAfter files journal disk h ops (Err (refusal.Spent front end)) =
      RepresentsHistory of_disk files journal disk h None
  RepresentsAfter files journal disk h ops (Err refusal.Fault) =
      RepresentsHistory of_disk files journal disk h (Some (Commit ops))
  RepresentsAfter files journal disk h ops (Err refusal.Memory) = RepresentsHistory of_disk files journal disk h None

  -- with these files the logs go on to the history with the commit; at each moment a crash leaves what shows it, or the
  -- one before
  pub record Enters (files : Files) (journal : Journal) (before after : D) (h : History) (ops : List Op)
      (result : Result ℕ CommitRefusal) : Type 0 where
    pub now : RepresentsAfter files journal after h ops result
    pub any_moment : Since of_disk before after (ShowsWith files h (Some (Commit ops)))

module _ {D Y F B : Type 0} {of_disk : Disk.Ghosts D} {of_yard : Yard.Ghosts Y F B} {of_file : SealedFile.Ghosts F}
    {of_build : Build.Ghosts B F} (old new : Engine D Y F B of_disk of_yard of_file of_build) where
  -- at each history that the engine is at it returns the reply of that history, and goes on to the next; with the
  -- commit the journal would end there
  pub record AnswersCommit (ops : List Op) (result : Result ℕ CommitRefusal) : Type 0 where
    pub reply : (h : History) → IsAt old h → IfSome (reply_of result) (λ r.
        r ≡ commit_reply (nat_le (2 ^ 62) (end_with (journal_of old) (front_of old + 1) ops)) h ops)
    pub goes_on : (h : History) → IsAt old h → IsAt new (history_after h ops result)
    pub would : (h : History) → IsAt old h → WouldEnter h ops result
    pub cause : MatchResult result (λ _. (down_since old ≡ None) × (down_since new ≡ None))
        (CommitRefused (down_since old) (down_since new) (of_disk.faults (disk_of old)) (of_disk.faults (disk_of new)))
    pub later : of_disk.faults (disk_of old) ≤ of_disk.faults (disk_of new)

  -- where the journal ends after a commit
  abbrev pub GrowsByCommit : List Op → Result ℕ CommitRefusal → Type 0
  GrowsByCommit ops result = Grows (journal_of old) (journal_of new) (front_of old + 1) ops result

  -- after every refusal but a fault the engine is as before
  abbrev pub SameUnlessFault : Result ℕ CommitRefusal → Type 0
  SameUnlessFault result = IfErr result (λ why. UnlessFault why (new ≡ old))

  -- where with some files the logs represent a history that the engine is at, the commit is entered in it, and survives
  -- a crash that keeps these files
  abbrev pub SurvivesCommit : List Op → Result ℕ CommitRefusal → Type 0
  SurvivesCommit ops result = (files : Files) (h : History) → IsAt old h
      → RepresentsHistory of_disk files (journal_of old) (disk_of old) h None
      → Enters of_disk files (journal_of new) (disk_of old) (disk_of new) h ops result

  -- the yard, the settings, the merge timestamp, and all logs but the current journal stay; that one is up where the
  -- call was done
  pub record KeepsRest {T E : Type 0} (result : Result T E) : Type 0 where
    pub yard : yard_of new ≡ yard_of old
    pub settings : new.settings ≡ old.settings
    pub merge : new.merge ≡ old.merge
    pub other : other_of (journal_of new).entries ≡ other_of (journal_of old).entries
    pub roots : (journal_of new).roots ≡ (journal_of old).roots
    pub frozen : (journal_of new).frozen ≡ (journal_of old).frozen
    pub up : OnOk result (IsUp (current_log (journal_of new)))
