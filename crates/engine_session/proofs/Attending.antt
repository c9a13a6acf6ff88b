-- A session with an engine agrees with the turns that its lines used.
use Rattle.std.proofs.Common.{◌≡◌, ◌≤◌, ℕ, Bool, List, [], sym, subst, None, arith}
use Rattle.client_run.specs.Sessions as s
use Rattle.disk_model.specs.declared.disk.Disk
use Rattle.disk_model.specs.declared.yard.Build
use Rattle.disk_model.specs.declared.yard.SealedFile
use Rattle.disk_model.specs.declared.yard.Yard
use Rattle.doc_engine.specs.EngineState.{IsAt, down_since, journal_of}
use Rattle.doc_engine.specs.Opening.{begins}
use Rattle.doc_engine.specs.declared.engine.Engine.{Engine}
use Rattle.doc_meaning.specs.History.{Base}
use Rattle.engine_session.proofs.Crashing.{LeavesNow}
use Rattle.engine_session.proofs.Using.{serves_lines, state}
use Rattle.engine_session.proofs.Taking.{takes_first}
use Rattle.engine_session.specs.Attended.{Attended}
use Rattle.engine_session.specs.Step.{Step}
use Rattle.frame_log.specs.LogStates.{end_of}
use Rattle.journal.specs.JournalStates.{current_log}
use Rattle.transcript.specs.Lines.{BeginsWithLines, Line}
use Rattle.transcript.specs.Transcript as t
use Rattle.transcript.specs.declared.command.Command.{Command}
use Rattle.transcript.specs.declared.reply.Reply.{Reply}
use Rattle.transcript.specs.declared.session_end.SessionEnd.{SessionEnd}

module _ {D Y F B : Type 0} {of_disk : Disk.Ghosts D} {of_yard : Yard.Ghosts Y F B} {of_file : SealedFile.Ghosts F}
    {of_build : Build.Ghosts B F}
    (at_now : LeavesNow of_disk)
    {S : Type 0} (answers : s.Relation S) (engine_of : S → Engine D Y F B of_disk of_yard of_file of_build)
    (steps : (old : S) (asked : Command) (said : Reply) (new : S) → answers old asked said new
    → Step (engine_of old) asked said (engine_of new)) where
  pub attended : (first final : S) (base : Base) (longest : ℕ) (input output : List ℕ) (how : SessionEnd) (over : Bool)
      → IsAt (engine_of first) (begins base) → down_since (engine_of first) ≡ None
      → end_of (current_log (journal_of (engine_of first))) ≤ longest
      → s.Serves answers first final input output how over
      → Attended (engine_of first) (engine_of final) base longest input output over how
  attended first final base longest input output how over at up ends is =
      let none = takes_first at_now (engine_of first) base longest at up ends in
      let all = serves_lines at_now (engine_of first) base longest answers engine_of steps first final [] 0 is.exchanges
      none is.replies in
      record {
        turns = all.more;
        takes = all.takes;
        agrees = record {
          served = all.served;
          behind = is.behind;
          final = state all.reads;
          lines = subst (λ (ls : List Line). BeginsWithLines input ls is.behind) (sym all.lines) is.lines;
          over = subst (λ (ls : List Line). t.IsOver how ls over) (sym all.lines) is.is_over;
          used = all.used;
          answers = all.answered;
          ends = rw (all.lines, all.texts) is.ends;
          reads = omega arith;
        };
      }
