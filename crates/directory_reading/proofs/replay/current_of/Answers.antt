use Rattle.std.proofs.Common.{◌∙◌, sym}
use Rattle.directory_meaning.specs.Bodies.{past}
use Rattle.directory_reading.proofs.TurnLemmas.{none_first}
use Rattle.directory_reading.proofs.replay.current_of.Goals as goal

pub returns-in-None-None : goal.returns-in-None-None
returns-in-None-None c = (
  none_first (past c.args.checkpoint c.args.entries_0.now) (sym c.first_past.ensures ∙ c.in-None-None.is-0),
  none_first (past c.args.checkpoint c.args.entries_1.now) (sym c.first_past-2.ensures ∙ c.in-None-None.is-1),
)
