use Rattle.std.proofs.Common.{◌≡◌, map}
use Rattle.std.specs.Arc.{arc_value}
use Rattle.std.specs.Slice.Iter.{chunks_rest, chunks_size}
use Rattle.stamp_table.proofs.Tiling.{IsCut}
use Rattle.stamp_table.proofs.block.Block.of.Given as goal

abbrev pub invariant-loop-chunk : goal.invariant-loop-chunk
invariant-loop-chunk l = record {
  can_next : goal.iterator-loop-chunk.can_next l.chunk-iterator;
  ends : goal.iterator-loop-chunk.is_finite l.chunk-iterator;
  size : chunks_size l.chunk-iterator ≡ 256;
  cut : IsCut 256 (map arc_value l.chunks.items) (chunks_rest l.chunk-iterator) l.fn.stamps;
}
