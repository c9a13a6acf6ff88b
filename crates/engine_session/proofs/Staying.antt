-- What stays of an engine whatever a session asks of it.
use Rattle.std.proofs.Common.{◌≡◌, ◌≤◌, ℕ, inl, inr, List, [], ◌∷◌, Option, Some, None, refl, sym, ◌∙◌, ap, subst}
use Rattle.std.proofs.Common.{arith}
use Rattle.client_run.specs.Sessions as s
use Rattle.client_run.specs.Sessions.{Exchange}
use Rattle.disk_model.specs.declared.disk.Disk
use Rattle.disk_model.specs.declared.yard.Build
use Rattle.disk_model.specs.declared.yard.SealedFile
use Rattle.disk_model.specs.declared.yard.Yard
use Rattle.doc_engine.specs.EngineState.{disk_of, yard_of}
use Rattle.doc_engine.specs.declared.engine.Engine.{Engine}
use Rattle.engine_session.specs.Step.{Step}
use Rattle.transcript.specs.Lines.{content}
use Rattle.transcript.specs.declared.command.Command.{Command}
use Rattle.transcript.specs.declared.command.Command.TheVariants as command
use Rattle.transcript.specs.declared.command.When.TheVariants as when
use Rattle.transcript.specs.declared.reply.Reply.{Reply}

module _ {D Y F B : Type 0} {of_disk : Disk.Ghosts D} {of_yard : Yard.Ghosts Y F B} {of_file : SealedFile.Ghosts F}
    {of_build : Build.Ghosts B F} where
  -- the yard stays, and the disk's count of faults hasn't fallen
  pub record Stays (old new : Engine D Y F B of_disk of_yard of_file of_build) : Type 0 where
    pub yard : yard_of new ≡ yard_of old
    pub later : of_disk.faults (disk_of old) ≤ of_disk.faults (disk_of new)

  stays_same : (old new : Engine D Y F B of_disk of_yard of_file of_build) → new ≡ old → Stays old new
  stays_same old new same =
      subst (λ (e : Engine D Y F B of_disk of_yard of_file of_build). Stays old e) (sym same)
      (record { yard = refl; later = omega arith })

  stays_then : (old mid new : Engine D Y F B of_disk of_yard of_file of_build) → Stays old mid → Stays mid new
      → Stays old new
  stays_then old mid new here behind = record {
    yard = behind.yard ∙ here.yard;
    later = omega (arith, here.later, behind.later);
  }

  pub step_stays : (old new : Engine D Y F B of_disk of_yard of_file of_build) (asked : Command) (said : Reply)
      → Step old asked said new → Stays old new
  step_stays old new (command.Commit ops) said (result, says, has) = record {
    yard = has.rest.yard;
    later = has.answers.later;
  }
  step_stays old new (command.Search q when.Front) said step = stays_same old new step.1
  step_stays old new (command.Search q (when.At at)) said step = stays_same old new step.1
  step_stays old new (command.Search q when.Pinned) said step = stays_same old new step.1
  step_stays old new (command.Get uri when.Front) said step = stays_same old new step.1
  step_stays old new (command.Get uri (when.At at)) said step = stays_same old new step.1
  step_stays old new (command.Get uri when.Pinned) said step = stays_same old new step.1
  step_stays old new (command.Estimate q when) said step = stays_same old new step.1
  step_stays old new command.Stamp said step = stays_same old new step.1
  step_stays old new (command.Forget to) said step = stays_same old new step.1
  step_stays old new command.Pin said step = stays_same old new step.1
  step_stays old new command.Unpin said step = stays_same old new step.1
  step_stays old new command.Save said step = stays_same old new step.1
  step_stays old new command.Merge said step = stays_same old new step.1
  step_stays old new command.Revive said step = stays_same old new step.1
  step_stays old new command.Quit said step = stays_same old new step.1

  -- a service that answers as the engine does that is in it
  module _ {S : Type 0} (answers : s.Relation S) (engine_of : S → Engine D Y F B of_disk of_yard of_file of_build)
      (steps : (old : S) (asked : Command) (said : Reply) (new : S) → answers old asked said new
      → Step (engine_of old) asked said (engine_of new)) where
    unasked : (old new : S) → new ≡ old → Stays (engine_of old) (engine_of new)
    unasked old new same = stays_same (engine_of old) (engine_of new) (ap engine_of same)

    line_stays : (old new : S) (line : List ℕ) (answer : Option Reply) → s.AnswersLine answers old line answer new
        → Stays (engine_of old) (engine_of new)
    line_stays old new [] answer (none, same) = unasked old new same
    line_stays old new (b ∷ line) None never = absurd never
    line_stays old new (b ∷ line) (Some answer) (inl (asked, asks, differs, step)) =
        step_stays (engine_of old) (engine_of new) asked answer (steps old asked answer new step)
    line_stays old new (b ∷ line) (Some answer) (inr (inl (quits, bye, same))) = unasked old new same
    line_stays old new (b ∷ line) (Some answer) (inr (inr (inl (refused, same)))) = unasked old new same
    line_stays old new (b ∷ line) (Some answer) (inr (inr (inr (lacks, stays, same)))) = unasked old new same

    pub lines_stay : (old new : S) (exchanges : List Exchange) → s.AnswersLines answers old exchanges new
        → Stays (engine_of old) (engine_of new)
    lines_stay old new [] same = unasked old new same
    lines_stay old new (exchange ∷ others) (mid, here, behind) =
        stays_then (engine_of old) (engine_of mid) (engine_of new)
        (line_stays old mid (content exchange.line) exchange.answer here) (lines_stay mid new others behind)
