use Rattle.std.proofs.Common.{◌≤◌, IsSome, subst, sym}
use Rattle.directory_meaning.specs.Directories.{KeepsShown}
use Rattle.doc_engine.proofs.Begun.{no_files, of_each, opens}
use Rattle.doc_engine.proofs.Opened.{if_some}
use Rattle.doc_engine.specs.EngineState.{files_of, yard_of}
use Rattle.doc_engine.specs.Opening.{longest_of}
use Rattle.frame_log.specs.LogStates.{end_of}
use Rattle.journal.specs.JournalStates.{current_log}
use Rattle.doc_engine.proofs.engine.Engine.open.Goals as goal

pub returns-in-Ok-clause-answers : goal.returns-in-Ok-clause-answers
returns-in-Ok-clause-answers g c =
    let is = c.holding.ensures in
    let found = c.in-Ok.ensures.found in
    record {
      up = is.up;
      opens = if_some (g.D.Disk.seen c.args.disk) found (λ image finds.
          of_each (files_of g.Y.Yard (yard_of c.holding.result)) (λ files.
          opens files image c.find.new.disk c.in-Ok.found (finds files) c.holding.result is.disk is.journal is.read));
      longest = if_some (g.D.Disk.seen c.args.disk) found (λ image finds.
          subst (λ j. end_of (current_log j) ≤ longest_of image) (sym is.journal) (finds no_files).longest);
    }

pub returns-in-Ok-clause-images : goal.returns-in-Ok-clause-images
returns-in-Ok-clause-images g c =
    subst (λ d. IsSome (g.D.Disk.seen c.args.disk) → KeepsShown g.D.Disk c.args.disk d) (sym c.holding.ensures.disk)
    c.in-Ok.ensures.images
