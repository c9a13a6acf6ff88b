-- The answer to a commit in a turn.
use Rattle.std.proofs.Common.{◌≡◌, ◌≤◌, ◌+◌, ℕ, Bool, true, false, if◌then◌else◌, List, Option, Some, None}
use Rattle.std.proofs.Common.{refl, Result, Ok, Err, arith}
use Rattle.disk_model.specs.Causes.{Rose}
use Rattle.doc_engine.specs.declared.refusal.CommitRefusal.{CommitRefusal}
use Rattle.doc_engine.specs.declared.refusal.CommitRefusal.TheVariants as refusal
use Rattle.doc_meaning.specs.History.{History, front}
use Rattle.doc_meaning.specs.Replies.{unless_conflict, unless_twice}
use Rattle.doc_meaning.specs.declared.replies.CommitReply.TheVariants as committed
use Rattle.doc_model.specs.declared.op.Op.{Op}
use Rattle.engine_session.specs.Step.{said_of}
use Rattle.transcript.specs.Answers.{reply_to_commit}
use Rattle.transcript.specs.Turns.{Answer, commits, down, fault, memory}

-- the answer of the turn
abbrev pub answer_of : Result ℕ CommitRefusal → Answer
answer_of (Ok at) = commits (committed.Entered at)
answer_of (Err (refusal.Down faults)) = down faults
answer_of (Err (refusal.Twice uri)) = commits (committed.Twice uri)
answer_of (Err (refusal.Conflict uri found front)) = commits (committed.Conflict uri found front)
answer_of (Err (refusal.Spent front end)) = commits (committed.Spent front)
answer_of (Err refusal.Fault) = fault
answer_of (Err refusal.Memory) = memory

pub said_is : (result : Result ℕ CommitRefusal) → Some (said_of result) ≡ reply_to_commit (answer_of result)
said_is (Ok at) = refl
said_is (Err (refusal.Down faults)) = refl
said_is (Err (refusal.Twice uri)) = refl
said_is (Err (refusal.Conflict uri found front)) = refl
said_is (Err (refusal.Spent front end)) = refl
said_is (Err refusal.Fault) = refl
said_is (Err refusal.Memory) = refl

-- whether room is left says nothing of a URI that is named twice, nor of a conflict
pub twice_free : (t : Option (List ℕ)) (c : Option Op) (h : History) (b d : Bool) (uri : List ℕ)
    → committed.Twice uri
    ≡ unless_twice t (unless_conflict h c (if b then committed.Spent (front h) else committed.Entered (front h + 1)))
    → committed.Twice uri
    ≡ unless_twice t (unless_conflict h c (if d then committed.Spent (front h) else committed.Entered (front h + 1)))
twice_free (Some u) c h b d uri is = is
twice_free None (Some op) h b d uri is = absurd (cc)
twice_free None None h true d uri is = absurd (cc)
twice_free None None h false d uri is = absurd (cc)

pub conflict_free : (t : Option (List ℕ)) (c : Option Op) (h : History) (b d : Bool) (uri : List ℕ) (found at : ℕ)
    → committed.Conflict uri found at
    ≡ unless_twice t (unless_conflict h c (if b then committed.Spent (front h) else committed.Entered (front h + 1)))
    → committed.Conflict uri found at
    ≡ unless_twice t (unless_conflict h c (if d then committed.Spent (front h) else committed.Entered (front h + 1)))
conflict_free (Some u) c h b d uri found at is = absurd (cc)
conflict_free None (Some op) h b d uri found at is = is
conflict_free None None h true d uri found at is = absurd (cc)
conflict_free None None h false d uri found at is = absurd (cc)

-- a count that rose above a later one rose above an earlier one
pub rose_earlier : (earlier before now : ℕ) → earlier ≤ before → Rose before now → Rose earlier now
rose_earlier earlier before now le rose = omega (arith, le, rose)
