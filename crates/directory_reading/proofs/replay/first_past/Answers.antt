use Rattle.std.proofs.Common.{Option, ap, option_map, sym}
use Rattle.directory_meaning.specs.Bodies.{Numbered}
use Rattle.directory_reading.proofs.NumberLemmas.{first_is}
use Rattle.directory_reading.proofs.replay.first_past.Goals as goal

pub returns-then-entry-checkpoint : goal.returns-then-entry-checkpoint
returns-then-entry-checkpoint c =
    ap (λ (o : Option Numbered). option_map (λ e. e.0) o)
    (sym (first_is c.args.checkpoint c.args.entries.now c.loop-entry.entry-index c.entry-item.result
    c.loop-entry-test.true
    c.entry-item.is c.if-entry-checkpoint.true c.loop-entry.invariant))
