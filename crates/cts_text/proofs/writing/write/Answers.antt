use Rattle.cts_text.proofs.Written.{written_of}
use Rattle.cts_text.proofs.writing.write.Goals as goal

pub returns-clause-of_query : goal.returns-clause-of_query
returns-clause-of_query c = written_of c.args.query.now c.in_ok-node_of.field-0 c.write.result
    c.in_ok-node_of.ensures.node c.in_ok-node_of.ensures.distances c.write.ensures.of_node
