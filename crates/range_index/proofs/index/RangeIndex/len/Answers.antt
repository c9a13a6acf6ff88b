use Rattle.std.proofs.Common.{length, ap, arith}
use Rattle.range_index.proofs.OrderLemmas.{length-rows}
use Rattle.range_index.proofs.index.RangeIndex.len.Goals as goal

pub returns : goal.returns
returns c =
    let index = c.self.inside in
    omega (
      arith,
      ap length c.self.view_is,
      length-rows index.values.items index.fragments.items c.self.invariant.paired,
      c.self.invariant.paired,
    )
