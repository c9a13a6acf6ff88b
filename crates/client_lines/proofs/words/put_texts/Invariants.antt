use Rattle.std.proofs.Common.{◌<◌, ◌≤◌, length, take, Ok}
use Rattle.std.specs.List.{flat_map}
use Rattle.client_lines.specs.Sending.{Passes}
use Rattle.transcript.specs.Texts.{ended}
use Rattle.client_lines.proofs.words.put_texts.Given as goal

abbrev pub invariant-loop-text : goal.invariant-loop-text
invariant-loop-text g l = record {
  passes : Passes (Ok tt) l.fn.outbox l.outbox (g.W.Sink.written l.fn.sink) (g.W.Sink.written l.sink)
      (flat_map ended (take l.text-index l.texts));
  room : length l.outbox < 65536;
  later : g.W.Sink.faults l.fn.sink ≤ g.W.Sink.faults l.sink;
}
