use Rattle.std.proofs.Common.{◌++◌, codes}
use Rattle.client_lines.specs.Tokens.{spaced_parts}
use Rattle.transcript.specs.Texts.{ended}
use Rattle.client_lines.proofs.SendingLemmas.{puts_more, puts_short}
use Rattle.client_lines.proofs.found.put_trees.Goals as goal

pub returns-in_err-put_collections : goal.returns-in_err-put_collections
returns-in_err-put_collections g c =
    puts_short g.W.Sink.written g.W.Sink.faults c.from_residual.result c.in_err-put_collections.field-0.0
    c.args.outbox.now c.put_collections.new.outbox c.args.sink.now c.put_collections.new.sink (ended (codes "doc" ++
    spaced_parts c.args.times.now) ++ ended c.args.collections.now) (ended c.args.root.now) c.from_residual.ensures.0
    c.in_err-put_collections.ensures

pub returns : goal.returns
returns g c =
    puts_more g.W.Sink.written g.W.Sink.faults c.put_text.result c.args.outbox.now c.put_collections.new.outbox
    c.put_text.new.outbox c.args.sink.now c.put_collections.new.sink c.put_text.new.sink (ended (codes "doc" ++
    spaced_parts c.args.times.now) ++ ended c.args.collections.now) (ended c.args.root.now)
    c.in_ok-put_collections.ensures c.put_text.ensures
