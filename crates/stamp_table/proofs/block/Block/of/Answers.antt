use Rattle.std.proofs.Common.{min, map, length, ap, ◌∙◌, rules}
use Rattle.std.specs.Arc.{arc_value}
use Rattle.std.specs.Slice.Iter.{chunks_rest}
use Rattle.stamp_table.proofs.Tiling.{cut_all, cut_more, cut_none, tile_more}
use Rattle.stamp_table.proofs.block.Block.of.Goals as goal

pub loop-chunk-init : goal.loop-chunk-init
loop-chunk-init c = record {
  can_next = search rules;
  ends = tt;
  size = search rules;
  cut = cut_none _ _ _ _ (ap (map arc_value) c.in_ok-chunks.ensures.items) (search rules);
}

pub loop-chunk-preserved : goal.loop-chunk-preserved
loop-chunk-preserved c =
    let steps = c.in-Some.ensures.steps in
    let cut = c.loop-chunk.invariant.cut in
    let rest = chunks_rest c.loop-chunk.chunk-iterator in
    let holds = c.in_ok-new.ensures.ok ∙ c.in_ok-chunk.ensures in
    let more = tile_more arc_value _ _ _ _ c.in_ok-push.ensures.items holds in
    record {
      can_next = search rules;
      ends = tt;
      size = steps.0 ∙ c.loop-chunk.invariant.size;
      cut = cut_more 256 _ _ _ _ _ _ more steps.1.0
          (steps.1.1 ∙ ap (λ size. min size (length rest)) c.loop-chunk.invariant.size)
          steps.1.2 cut;
    }

pub invariant_of-result : goal.invariant_of-result
invariant_of-result c = (cut_all 256 _ _ _ c.in-None.ensures.steps.1.0 c.loop-chunk.invariant.cut).1

pub returns : goal.returns
returns c = (cut_all 256 _ _ _ c.in-None.ensures.steps.1.0 c.loop-chunk.invariant.cut).0
