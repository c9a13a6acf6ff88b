use Rattle.std.proofs.Common.{◌≡◌, map}
use Rattle.std.specs.Arc.{arc_value}
use Rattle.std.specs.Slice.Iter.{chunks_rest, chunks_size}
use Rattle.stamp_table.proofs.Tiling.{IsCut}
use Rattle.stamp_table.proofs.stamps.Stamps.of.Given as goal

abbrev pub invariant-loop-block : goal.invariant-loop-block
invariant-loop-block l = record {
  can_next : goal.iterator-loop-block.can_next l.block-iterator;
  ends : goal.iterator-loop-block.is_finite l.block-iterator;
  size : chunks_size l.block-iterator ≡ 65536;
  cut : IsCut 65536 (map arc_value l.blocks.items) (chunks_rest l.block-iterator) l.fn.list.items;
}
