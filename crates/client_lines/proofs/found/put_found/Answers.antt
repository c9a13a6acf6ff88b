use Rattle.std.proofs.Common.{◌++◌, codes}
use Rattle.client_lines.specs.Tokens.{spaced_parts}
use Rattle.transcript.specs.Texts.{ended}
use Rattle.std.specs.List.{flat_map}
use Rattle.client_lines.proofs.SendingLemmas.{puts_more, puts_short}
use Rattle.client_lines.proofs.found.put_found.Goals as goal

pub returns-in_err-put_uris : goal.returns-in_err-put_uris
returns-in_err-put_uris g c =
    puts_short g.W.Sink.written g.W.Sink.faults c.from_residual.result c.in_err-put_uris.field-0.0 c.args.outbox.now
    c.put_uris.new.outbox c.args.sink.now c.put_uris.new.sink (ended (codes "found" ++ spaced_parts c.args.times.now)
    ++ flat_map ended c.args.uris.now) (ended (codes "end")) c.from_residual.ensures.0 c.in_err-put_uris.ensures

pub returns : goal.returns
returns g c =
    puts_more g.W.Sink.written g.W.Sink.faults c.put_ended.result c.args.outbox.now c.put_uris.new.outbox
    c.put_ended.new.outbox c.args.sink.now c.put_uris.new.sink c.put_ended.new.sink (ended (codes "found" ++
    spaced_parts c.args.times.now) ++ flat_map ended c.args.uris.now) (ended (codes "end")) c.in_ok-put_uris.ensures
    c.put_ended.ensures
