-- How an engine answers a command.
use Rattle.std.specs.Prelude.{ℕ, ◌≡◌, ◌⊎◌, List, Result, Ok, Err}
use Rattle.disk_model.specs.declared.disk.Disk
use Rattle.disk_model.specs.declared.yard.Build
use Rattle.disk_model.specs.declared.yard.SealedFile
use Rattle.disk_model.specs.declared.yard.Yard
use Rattle.doc_engine.specs.Calls.{AnswersCommit, GrowsByCommit, KeepsRest, SameUnlessFault, SurvivesCommit}
use Rattle.doc_engine.specs.EngineState.{IsAt}
use Rattle.doc_engine.specs.declared.engine.Engine.{Engine}
use Rattle.doc_engine.specs.declared.refusal.CommitRefusal.{CommitRefusal}
use Rattle.doc_engine.specs.declared.refusal.CommitRefusal.TheVariants as refusal
use Rattle.doc_model.specs.declared.op.Op.{Op}
use Rattle.doc_model.specs.declared.query.Query.{Query}
use Rattle.doc_meaning.specs.History.{History, front, merge}
use Rattle.transcript.specs.Answers.{reply_to_get, reply_to_search}
use Rattle.transcript.specs.declared.command.Command.{Command}
use Rattle.transcript.specs.declared.command.Command.TheVariants as command
use Rattle.transcript.specs.declared.command.When.TheVariants as when
use Rattle.transcript.specs.declared.reply.Reply.{Reply}
use Rattle.transcript.specs.declared.reply.Reply.TheVariants as reply

-- the reply to a commit, by its result
abbrev pub said_of : Result ℕ CommitRefusal → Reply
said_of (Ok at) = reply.Ok at
said_of (Err (refusal.Down faults)) = reply.Down
said_of (Err (refusal.Twice uri)) = reply.Twice uri
said_of (Err (refusal.Conflict uri found front)) = reply.Conflict uri found front
said_of (Err (refusal.Spent front end)) = reply.Spent front
said_of (Err refusal.Fault) = reply.Fault
said_of (Err refusal.Memory) = reply.Memory

-- the reply to a search, and to a get, at the front of a history
abbrev pub found_at : History → Query → Reply
found_at h q = reply_to_search q h (front h)

abbrev pub got_at : History → List ℕ → Reply
got_at h uri = reply_to_get uri h (front h)

module _ {D Y F B : Type 0} {of_disk : Disk.Ghosts D} {of_yard : Yard.Ghosts Y F B} {of_file : SealedFile.Ghosts F}
    {of_build : Build.Ghosts B F} where
  -- a commit was asked of the engine, with this result
  pub record HasCommitted (old new : Engine D Y F B of_disk of_yard of_file of_build) (ops : List Op)
      (result : Result ℕ CommitRefusal) : Type 0 where
    pub answers : AnswersCommit old new ops result
    pub growth : GrowsByCommit old new ops result
    pub unchanged : SameUnlessFault old new result
    pub rest : KeepsRest old new result
    pub crash : SurvivesCommit old new ops result

  -- the engine isn't asked
  abbrev pub Later : Engine D Y F B of_disk of_yard of_file of_build → Reply
      → Engine D Y F B of_disk of_yard of_file of_build → Type 0
  Later old said new = (said ≡ reply.Later) × (new ≡ old)

  -- commits, gets and searches at the front, and stamps are asked of the engine; the reply to all else is `later`. Want
  -- of memory is free where nothing is committed
  abbrev pub Step : Engine D Y F B of_disk of_yard of_file of_build → Command → Reply
      → Engine D Y F B of_disk of_yard of_file of_build → Type 0
  Step old (command.Commit ops) said new =
      (result : Result ℕ CommitRefusal) × (said ≡ said_of result) × HasCommitted old new ops result
  Step old (command.Get uri when.Front) said new =
      (((h : History) → IsAt old h → said ≡ got_at h uri) ⊎ (said ≡ reply.Memory)) × (new ≡ old)
  Step old (command.Get uri (when.At at)) said new = Later old said new
  Step old (command.Get uri when.Pinned) said new = Later old said new
  Step old (command.Search q when.Front) said new =
      (((h : History) → IsAt old h → said ≡ found_at h q) ⊎ (said ≡ reply.Memory)) × (new ≡ old)
  Step old (command.Search q (when.At at)) said new = Later old said new
  Step old (command.Search q when.Pinned) said new = Later old said new
  Step old (command.Estimate q at) said new = Later old said new
  Step old command.Stamp said new =
      ((h : History) → IsAt old h → said ≡ reply.Stamp (front h) (merge h)) × (new ≡ old)
  Step old (command.Forget to) said new = Later old said new
  Step old command.Pin said new = Later old said new
  Step old command.Unpin said new = Later old said new
  Step old command.Save said new = Later old said new
  Step old command.Merge said new = Later old said new
  Step old command.Revive said new = Later old said new
  Step old command.Quit said new = Later old said new
