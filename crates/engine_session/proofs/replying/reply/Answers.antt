use Rattle.std.proofs.Common.{rules, ◌≡◌, ◌∙◌, ⊎_elim, ◌⊎◌, inl, inr, refl, subst, sym, ap, ℕ, List}
use Rattle.disk_model.specs.declared.disk.Disk
use Rattle.disk_model.specs.declared.yard.Build
use Rattle.disk_model.specs.declared.yard.SealedFile
use Rattle.disk_model.specs.declared.yard.Yard
use Rattle.doc_engine.specs.EngineState.{IsAt, IsAtSince, Sees, SeesSince}
use Rattle.doc_engine.specs.declared.engine.Engine.{Engine}
use Rattle.doc_engine.specs.declared.snapshot.Snapshot.{Snapshot}
use Rattle.doc_meaning.specs.History.{History, front, merge}
use Rattle.doc_model.specs.declared.query.Query.{Query}
use Rattle.engine_session.specs.Step.{Step, found_at, got_at}
use Rattle.transcript.specs.declared.command.Command.{Command}
use Rattle.transcript.specs.declared.command.Command.TheVariants as command
use Rattle.transcript.specs.declared.command.When.{When}
use Rattle.transcript.specs.declared.command.When.TheVariants as when
use Rattle.transcript.specs.declared.reply.Reply.{Reply}
use Rattle.transcript.specs.declared.reply.Reply.TheVariants as reply
use Rattle.engine_session.proofs.replying.reply.Goals as goal

module _ {D Y F B : Type 0} {of_disk : Disk.Ghosts D} {of_yard : Yard.Ghosts Y F B} {of_file : SealedFile.Ghosts F}
    {of_build : Build.Ghosts B F} (old : Engine D Y F B of_disk of_yard of_file of_build) (said : Reply)
    (asked : Command) (seen : Snapshot)
    (looked : (since : ℕ) (h : History) → IsAtSince old since h → SeesSince seen since h) where
  -- what a snapshot of the engine says, the engine says
  at_the_engine : (said_at : History → Reply)
      → (((h : History) → Sees seen h → said ≡ said_at h) ⊎ (said ≡ reply.Memory))
      → ((h : History) → IsAt old h → said ≡ said_at h) ⊎ (said ≡ reply.Memory)
  at_the_engine said_at says = ⊎_elim (λ is. inl (λ h at. is h (looked (merge h) h at))) (λ lacks. inr lacks) says

  -- a get at the front
  got : (uri : List ℕ) (at : When) → asked ≡ command.Get uri at → at ≡ when.Front
      → (((h : History) → Sees seen h → said ≡ got_at h uri) ⊎ (said ≡ reply.Memory)) → Step old asked said old
  got uri at is fronts says =
      subst (λ (a : Command). Step old a said old) (sym (is ∙ ap (λ (w : When). command.Get uri w) fronts))
      (at_the_engine (λ h. got_at h uri) says, refl)

  -- a search at the front
  found : (q : Query) (at : When) → asked ≡ command.Search q at → at ≡ when.Front
      → (((h : History) → Sees seen h → said ≡ found_at h q) ⊎ (said ≡ reply.Memory)) → Step old asked said old
  found q at is fronts says =
      subst (λ (a : Command). Step old a said old) (sym (is ∙ ap (λ (w : When). command.Search q w) fronts))
      (at_the_engine (λ h. found_at h q) says, refl)

  -- a stamp
  stamped : asked ≡ command.Stamp
      → ((since : ℕ) (h : History) → SeesSince seen since h → said ≡ reply.Stamp (front h) since)
      → Step old asked said old
  stamped is says =
      subst (λ (a : Command). Step old a said old) (sym is)
      ((λ h at. says (merge h) h (looked (merge h) h at)), refl)

pub returns-in-Get-default-Front : goal.returns-in-Get-default-Front
returns-in-Get-default-Front g c =
    got c.args.engine.now c.get.result c.args.command c.look.result c.look.ensures c.in-Get-default-Front.uri _
    c.in-Get-default-Front.is c.in-Get-default-Front.when-is c.get.ensures

pub returns-in-Search-default-Front : goal.returns-in-Search-default-Front
returns-in-Search-default-Front g c =
    found c.args.engine.now c.search.result c.args.command c.look-in-Search-default-Front.result
    c.look-in-Search-default-Front.ensures c.in-Search-default-Front.query _ c.in-Search-default-Front.is
    c.in-Search-default-Front.when-is c.search.ensures

pub returns-in-Stamp : goal.returns-in-Stamp
returns-in-Stamp g c =
    stamped c.args.engine.now c.stamp.result c.args.command c.look-in-Stamp.result c.look-in-Stamp.ensures c.in-Stamp.is
    c.stamp.ensures

pub returns-in-Get-default-At : goal.returns-in-Get-default-At
returns-in-Get-default-At g c =
    search rules depth 9
