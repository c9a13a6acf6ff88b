use Rattle.std.proofs.Common.{◌≡◌, ◌-◌, length}
use Rattle.std.specs.Prelude.{string_bytes}
use Rattle.json_text.specs.Reading.{with_front, repeated, piece_at}
use Rattle.json_text.proofs.string.text.Given as goal

abbrev pub invariant-loop : goal.invariant-loop
invariant-loop l = with_front (string_bytes l.out) (repeated piece_at (length l.bytes - l.counter) l.rest) ≡ repeated
    piece_at (length l.bytes) l.bytes
