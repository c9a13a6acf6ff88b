use Rattle.std.proofs.Common.{◌≡◌, ◌<◌, ◌%◌, ◌/◌, map, length, set, ap, sym, subst, ◌∙◌, arith, length-set}
use Rattle.std.specs.Arc.{arc_value}
use Rattle.std.specs.List.{concat}
use Rattle.stamp_table.specs.Tiles.{IsTiled}
use Rattle.stamp_table.proofs.Tiling.{among}
use Rattle.stamp_table.proofs.stamps.Stamps.set.Goals as goal
use Rattle.stamp_table.proofs.stamps.Stamps.set.Goals.{In_ok-blocks}

pub index-requires : goal.index-requires
index-requires c =
    let blocks = c.self.inside.blocks in
    let spot = among arc_value 65536 blocks.items _ c.args.i (omega arith) c.self.invariant.0 c.self.view_is
    c.requires.within in
    omega (arith, spot.piece, blocks.ok.0)

pub set-requires : goal.set-requires
set-requires c =
    let blocks = c.self.inside.blocks in
    let spot = among arc_value 65536 blocks.items _ c.args.i (omega arith) c.self.invariant.0 c.self.view_is
    c.requires.within in
    subst (λ block. c.args.i % 65536 < length block) (sym c.deref-block.ensures)
    (spot.item c.index.result.now c.index.ensures)

pub share_but-requires : goal.share_but-requires
share_but-requires c =
    let blocks = c.self.inside.blocks in
    let spot = among arc_value 65536 blocks.items _ c.args.i (omega arith) c.self.invariant.0 c.self.view_is
    c.requires.within in
    omega (arith, spot.piece, ap length c.deref.ensures.value)

-- the blocks that are shared, with the changed one
changed : (c : In_ok-blocks) →
    let block = arc_value c.index.result.now in
    map arc_value c.in_ok-blocks.blocks.items
    ≡ set (map arc_value c.self.inside.blocks.items) (c.args.i / 65536) (set block (c.args.i % 65536) c.args.t)
changed c =
    c.in_ok-blocks.ensures
    ∙ ap (λ blocks. set (map arc_value blocks) (c.args.i / 65536) c.in_ok-changed.changed) c.deref.ensures.value
    ∙ ap (set (map arc_value c.self.inside.blocks.items) (c.args.i / 65536))
    (c.in_ok-changed.ensures ∙ ap (λ block. set block (c.args.i % 65536) c.args.t) c.deref-block.ensures)

-- they hold the stamps with the new one
holds : (c : In_ok-blocks) →
    concat (map arc_value c.in_ok-blocks.blocks.items) ≡ set c.args.self.now c.args.i c.args.t
holds c =
    let blocks = c.self.inside.blocks in
    let spot = among arc_value 65536 blocks.items _ c.args.i (omega arith) c.self.invariant.0 c.self.view_is
    c.requires.within in
    ap concat (changed c) ∙ spot.changed c.index.result.now c.args.t c.index.ensures

pub invariant_of-result : goal.invariant_of-result
invariant_of-result c =
    let blocks = c.self.inside.blocks in
    let spot = among arc_value 65536 blocks.items _ c.args.i (omega arith) c.self.invariant.0 c.self.view_is
    c.requires.within in (
      subst (IsTiled 65536 0) (sym (changed c)) (spot.tiled c.index.result.now c.args.t c.index.ensures),
      c.self.invariant.1 ∙ ap length c.self.view_is ∙ sym (length-set c.args.self.now c.args.i c.args.t)
          ∙ ap length (sym (holds c)),
    )

pub returns : goal.returns
returns c = holds c
