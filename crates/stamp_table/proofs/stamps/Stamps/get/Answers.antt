use Rattle.std.proofs.Common.{◌<◌, ◌%◌, length, get_or, ap, sym, subst, ◌∙◌, arith}
use Rattle.std.specs.Arc.{arc_value}
use Rattle.stamp_table.proofs.Tiling.{among}
use Rattle.stamp_table.proofs.stamps.Stamps.get.Goals as goal

pub index-requires : goal.index-requires
index-requires c =
    let blocks = c.self.inside.blocks in
    let spot = among arc_value 65536 blocks.items _ c.args.i (omega arith) c.self.invariant.0 c.self.view_is
    c.requires in
    omega (arith, spot.piece, blocks.ok.0)

pub get-requires : goal.get-requires
get-requires c =
    let blocks = c.self.inside.blocks in
    let spot = among arc_value 65536 blocks.items _ c.args.i (omega arith) c.self.invariant.0 c.self.view_is
    c.requires in
    subst (λ block. c.args.i % 65536 < length block) (sym c.deref-block.ensures)
    (spot.item c.index.result.now c.index.ensures)

pub returns : goal.returns
returns c =
    let blocks = c.self.inside.blocks in
    let spot = among arc_value 65536 blocks.items _ c.args.i (omega arith) c.self.invariant.0 c.self.view_is
    c.requires in
    c.get.ensures ∙ ap (λ block. get_or block (c.args.i % 65536) 0) c.deref-block.ensures
    ∙ spot.read c.index.result.now c.index.ensures
