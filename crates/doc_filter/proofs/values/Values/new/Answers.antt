use Rattle.doc_filter.proofs.ValueLemmas.{values_more}
use Rattle.doc_filter.proofs.values.Values.new.Goals as goal

pub loop-value-preserved : goal.loop-value-preserved
loop-value-preserved c =
    values_more c.loop-value.made c.add.new.self c.args.case c.args.exact c.args.values.now c.loop-value.value-index
    c.value-item.result c.loop-value-test.true c.value-item.is c.in_ok-add.ensures c.loop-value.invariant
