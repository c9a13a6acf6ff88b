use Rattle.std.proofs.Common.{get_or, refl, arith}
use Rattle.client_lines.proofs.SpanLemmas.{stops_at}
use Rattle.client_lines.proofs.word_kind.timestamp_end.Goals as goal

pub returns-in_default-clause-longest : goal.returns-in_default-clause-longest
returns-in_default-clause-longest c = λ more less le is.
    stops_at c.loop-i.value c.args.bytes.now c.loop-i.i (get_or c.args.bytes.now c.loop-i.i 0) more
    c.loop-i.invariant.0 (omega arith) refl c.in_default.ensures less le is
