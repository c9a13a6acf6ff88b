use Rattle.std.proofs.Common.{◌≤◌, ◌+◌, ◌-◌, [], length, cond}
use Rattle.client_run.specs.Closing.{Moves}
use Rattle.client_run.specs.Reading.{Gathers, Finds}
use Rattle.client_run.proofs.step.find_next.Given as goal
use Rattle.transcript.specs.declared.limits.TheConstants.{LONGEST_LINE}

abbrev pub invariant-loop-found : goal.invariant-loop-found
invariant-loop-found g l = record {
  gathers : Gathers l.fn.reader l.reader (g.I.Source.left l.fn.source) (g.I.Source.left l.source);
  found : Finds l.reader l.found;
  moves : Moves l.fn.outbox l.outbox (g.W.Sink.written l.fn.sink) (g.W.Sink.written l.sink) [];
  source_later : g.I.Source.faults l.fn.source ≤ g.I.Source.faults l.source;
  sink_later : g.W.Sink.faults l.fn.sink ≤ g.W.Sink.faults l.sink;
}

abbrev pub decreases-loop-found : goal.decreases-loop-found
decreases-loop-found g l = cond l.reader.over 0 (LONGEST_LINE + 2 - length l.reader.pending)
