use Rattle.std.proofs.Common.{◌<◌, ◌≤◌, length, take, Ok}
use Rattle.std.specs.List.{flat_map}
use Rattle.client_lines.specs.Sending.{Passes}
use Rattle.client_lines.specs.Tokens.{spaced_part}
use Rattle.client_lines.proofs.words.put_parts.Given as goal

abbrev pub invariant-loop-token : goal.invariant-loop-token
invariant-loop-token g l = record {
  passes : Passes (Ok tt) l.fn.outbox l.outbox (g.W.Sink.written l.fn.sink) (g.W.Sink.written l.sink)
      (flat_map spaced_part (take l.token-index l.tokens));
  room : length l.outbox < 65536;
  later : g.W.Sink.faults l.fn.sink ≤ g.W.Sink.faults l.sink;
}
