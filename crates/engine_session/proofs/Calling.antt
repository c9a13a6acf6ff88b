-- A session with what answers by a call.
use Rattle.std.proofs.Common.{◌≡◌, ◌≤◌, ℕ, Bool, List, subst₂, None, MutBor}
use denote.Param.Members.{Mut}
use Rattle.std.specs.Fn.{CalledWithState}
use Rattle.client_run.specs.Sessions.{Serves}
use Rattle.disk_model.specs.declared.disk.Disk
use Rattle.disk_model.specs.declared.yard.Build
use Rattle.disk_model.specs.declared.yard.SealedFile
use Rattle.disk_model.specs.declared.yard.Yard
use Rattle.doc_engine.specs.EngineState.{IsAt, down_since, journal_of}
use Rattle.doc_engine.specs.Opening.{begins}
use Rattle.doc_engine.specs.declared.engine.Engine.{Engine}
use Rattle.doc_meaning.specs.History.{Base}
use Rattle.engine_session.proofs.Attending.{attended}
use Rattle.engine_session.proofs.Crashing.{LeavesNow}
use Rattle.engine_session.proofs.Staying.{Stays, lines_stay}
use Rattle.engine_session.specs.Attended.{Attended}
use Rattle.engine_session.specs.Step.{Step}
use Rattle.engine_session.specs.declared.answering.Answering.{Answering}
use Rattle.frame_log.specs.LogStates.{end_of}
use Rattle.journal.specs.JournalStates.{current_log}
use Rattle.transcript.specs.declared.command.Command.{Command}
use Rattle.transcript.specs.declared.reply.Reply.{Reply}
use Rattle.transcript.specs.declared.session_end.SessionEnd.{SessionEnd}

module _ {D Y F B : Type 0} {of_disk : Disk.Ghosts D} {of_yard : Yard.Ghosts Y F B} {of_file : SealedFile.Ghosts F}
    {of_build : Build.Ghosts B F}
    (at_now : LeavesNow of_disk)
    {C : Type 0}
    (g : Mut C (MutBor (Engine D Y F B of_disk of_yard of_file of_build) × (Command × Unit {0}))
    (Reply × (MutBor (Engine D Y F B of_disk of_yard of_file of_build) × Unit {0})))
    (first final : Answering (Engine D Y F B of_disk of_yard of_file of_build) C) (input output : List ℕ)
    (how : SessionEnd) (over : Bool)
    (serves : Serves (λ old asked said new. CalledWithState g old.answer old.state asked said new.answer new.state)
    first final input output how over)
    (says : (f : C) (p : MutBor (Engine D Y F B of_disk of_yard of_file of_build)) (asked : Command) (said : Reply)
    (q : MutBor (Engine D Y F B of_disk of_yard of_file of_build)) (f' : C)
    → g.steps f (p, (asked, tt)) (said, (q, tt)) f' → Step p.now asked said q.now) where
  steps : (old : Answering (Engine D Y F B of_disk of_yard of_file of_build) C) (asked : Command) (said : Reply)
      (new : Answering (Engine D Y F B of_disk of_yard of_file of_build) C)
      → CalledWithState g old.answer old.state asked said new.answer new.state → Step old.state asked said new.state
  steps old asked said new called =
      subst₂ (λ (e o : Engine D Y F B of_disk of_yard of_file of_build). Step e asked said o) called.shows called.leaves
      (says old.answer called.shown asked said called.left new.answer called.called.met)

  pub attended_by : (base : Base) (longest : ℕ) → IsAt first.state (begins base)
      → down_since first.state ≡ None → end_of (current_log (journal_of first.state)) ≤ longest
      → Attended first.state final.state base longest input output over how
  attended_by base longest at up ends =
      attended at_now (λ old asked said new. CalledWithState g old.answer old.state asked said new.answer new.state)
      (λ (s : Answering (Engine D Y F B of_disk of_yard of_file of_build) C). s.state) steps first final base
      longest input output how over at up ends serves

  pub stays_by : Stays first.state final.state
  stays_by =
      lines_stay (λ old asked said new. CalledWithState g old.answer old.state asked said new.answer new.state)
      (λ (s : Answering (Engine D Y F B of_disk of_yard of_file of_build) C). s.state) steps first final
      serves.exchanges serves.replies
