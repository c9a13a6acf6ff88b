use Rattle.std.proofs.Common.{◌++◌, codes}
use Rattle.client_lines.specs.Tokens.{spaced_parts}
use Rattle.transcript.specs.Texts.{ended}
use Rattle.std.specs.List.{flat_map}
use Rattle.client_lines.proofs.SendingLemmas.{puts_more, puts_short}
use Rattle.client_lines.proofs.found.put_uris.Goals as goal

pub returns-in_err-put_line : goal.returns-in_err-put_line
returns-in_err-put_line g c =
    puts_short g.W.Sink.written g.W.Sink.faults c.from_residual.result c.in_err-put_line.field-0.0 c.args.outbox.now
    c.put_line.new.outbox c.args.sink.now c.put_line.new.sink (ended (codes "found" ++ spaced_parts c.args.times.now))
    (flat_map ended c.args.uris.now) c.from_residual.ensures.0 c.in_err-put_line.ensures

pub returns : goal.returns
returns g c =
    puts_more g.W.Sink.written g.W.Sink.faults c.put_texts.result c.args.outbox.now c.put_line.new.outbox
    c.put_texts.new.outbox c.args.sink.now c.put_line.new.sink c.put_texts.new.sink (ended (codes "found" ++
    spaced_parts c.args.times.now)) (flat_map ended c.args.uris.now) c.in_ok-put_line.ensures c.put_texts.ensures
