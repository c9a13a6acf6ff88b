use Rattle.std.proofs.Common.{◌<◌, arith}
use Rattle.client_run.proofs.Ending.{no_memory, parts}
use Rattle.client_run.proofs.Steps.{begins}
use Rattle.client_run.specs.Serving.{start}
use Rattle.client_run.proofs.serving.session.Goals as goal
use Rattle.transcript.specs.declared.limits.TheConstants.{MAX_LINES}

pub returns-in_default-clause-serves : goal.returns-in_default-clause-serves
returns-in_default-clause-serves g c = no_memory g.S.Service.answers c.args.service.now
    (g.I.Source.left c.args.source.now) (g.W.Sink.written c.args.sink.now)

pub lines-init : goal.lines-init
lines-init g c = record {
  so_far = rw (c.in-Ok.ensures.0, c.in-Ok.ensures.1) (begins g.S.Service.answers c.args.service.now
      (g.I.Source.left c.args.source.now) (g.W.Sink.written c.args.sink.now));
  few = omega arith;
  ready = c.requires;
  source_later = omega arith;
  sink_later = omega arith;
}

pub returns-in-Err-clause-serves : goal.returns-in-Err-clause-serves
returns-in-Err-clause-serves g c =
    parts g.S.Service.answers (start c.args.service.now (g.I.Source.left c.args.source.now)
    (g.W.Sink.written c.args.sink.now)) _ c.in-Err.how (c.in-Err.ensures.steps _ c.lines.invariant.so_far)

pub lines-smaller : goal.lines-smaller
lines-smaller g c =
    let fits : c.lines.served < MAX_LINES = (c.in-Ok-step.ensures.steps _ c.lines.invariant.so_far).0 in
    omega (arith, fits)

pub lines-preserved : goal.lines-preserved
lines-preserved g c =
    let stepped = c.in-Ok-step.ensures.steps _ c.lines.invariant.so_far in
    record {
      so_far = stepped.1;
      few = omega (arith, stepped.0);
      ready = c.in-Ok-step.ensures.ready;
      source_later = omega (arith, c.lines.invariant.source_later, c.in-Ok-step.ensures.read_fault.later);
      sink_later = omega (arith, c.lines.invariant.sink_later, c.in-Ok-step.ensures.write_fault.later);
    }
