use Rattle.db_top.proofs.LineTexts.{summed}
use Rattle.db_top.proofs.lines.summary.Goals as goal

pub returns : goal.returns
returns c = λ merge h sees.
    summed _ _ _ _ _ _ _ _ _ _ _ (c.stamp.ensures merge h sees) (c.merge_stamp.ensures merge h sees)
    (c.live.ensures merge h sees) c.new-line.ensures
    c.put.ensures.written c.put-2.ensures.written c.put-3.ensures.written c.push_str.ensures.bytes
