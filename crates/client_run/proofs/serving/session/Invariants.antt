use Rattle.std.proofs.Common.{◌≤◌, ◌-◌}
use Rattle.client_run.specs.Serving.{SoFar, start, point}
use Rattle.client_run.proofs.serving.session.Given as goal
use Rattle.transcript.specs.declared.limits.TheConstants.{MAX_LINES}

abbrev pub invariant-lines : goal.invariant-lines
invariant-lines g l = record {
  so_far : SoFar g.S.Service.answers (start l.fn.service (g.I.Source.left l.fn.source) (g.W.Sink.written l.fn.sink))
      (point l.service (g.I.Source.left l.source) (g.W.Sink.written l.sink) l.outbox l.reader) l.served;
  few : l.served ≤ MAX_LINES;
  ready : g.S.Service.ready l.service;
  source_later : g.I.Source.faults l.fn.source ≤ g.I.Source.faults l.source;
  sink_later : g.W.Sink.faults l.fn.sink ≤ g.W.Sink.faults l.sink;
}

abbrev pub decreases-lines : goal.decreases-lines
decreases-lines g l = MAX_LINES - l.served
