use Rattle.std.proofs.Common.{◌++◌, codes}
use Rattle.client_lines.specs.Tokens.{spaced_parts}
use Rattle.transcript.specs.Texts.{ended}
use Rattle.client_lines.proofs.SendingLemmas.{puts_more, puts_short}
use Rattle.client_lines.proofs.found.put_doc.Goals as goal

pub returns-in_err-put_trees : goal.returns-in_err-put_trees
returns-in_err-put_trees g c =
    puts_short g.W.Sink.written g.W.Sink.faults c.from_residual.result c.in_err-put_trees.field-0.0 c.args.outbox.now
    c.put_trees.new.outbox c.args.sink.now c.put_trees.new.sink ((ended (codes "doc" ++ spaced_parts c.args.times.now)
    ++ ended c.args.collections.now) ++ ended c.args.root.now) (ended (codes "end")) c.from_residual.ensures.0
    c.in_err-put_trees.ensures

pub returns : goal.returns
returns g c =
    puts_more g.W.Sink.written g.W.Sink.faults c.put_ended.result c.args.outbox.now c.put_trees.new.outbox
    c.put_ended.new.outbox c.args.sink.now c.put_trees.new.sink c.put_ended.new.sink ((ended (codes "doc" ++
    spaced_parts c.args.times.now) ++ ended c.args.collections.now) ++ ended c.args.root.now) (ended (codes "end"))
    c.in_ok-put_trees.ensures c.put_ended.ensures
