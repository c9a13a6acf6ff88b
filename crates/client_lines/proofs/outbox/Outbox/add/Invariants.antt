use Rattle.std.proofs.Common.{length, ◌+◌, ◌-◌, ◌<◌, ◌≤◌, ◌≡◌, take, Ok}
use Rattle.client_lines.specs.Sending.{Passes}
use Rattle.client_lines.proofs.outbox.Outbox.add.Given as goal

abbrev pub invariant-full : goal.invariant-full
invariant-full g l = record {
  in_range : l.at ≤ length l.bytes;
  passes : Passes (Ok tt) l.fn.self l.self (g.W.Sink.written l.fn.sink) (g.W.Sink.written l.sink) (take l.at l.bytes);
  most : length l.self ≤ 65536;
  whole : length l.self < 65536 → l.at ≡ length l.bytes;
  later : g.W.Sink.faults l.fn.sink ≤ g.W.Sink.faults l.sink;
}

abbrev pub decreases-full : goal.decreases-full
decreases-full g l = length l.bytes - l.at + length l.self
