use Rattle.std.proofs.Common.{◌≡◌, ◌<◌, ◌%◌, ◌/◌, map, length, set, ap, sym, subst, ◌∙◌, arith}
use Rattle.std.specs.Arc.{arc_value}
use Rattle.std.specs.List.{concat}
use Rattle.stamp_table.specs.Tiles.{IsTiled}
use Rattle.stamp_table.proofs.Tiling.{among}
use Rattle.stamp_table.proofs.block.Block.set.Goals as goal
use Rattle.stamp_table.proofs.block.Block.set.Goals.{In_ok-chunks}

pub index-requires : goal.index-requires
index-requires c =
    let chunks = c.self.inside.chunks in
    let spot = among arc_value 256 chunks.items _ c.args.i (omega arith) c.self.invariant c.self.view_is c.requires in
    omega (arith, spot.piece, chunks.ok.0)

pub set-requires : goal.set-requires
set-requires c =
    let chunks = c.self.inside.chunks in
    let spot = among arc_value 256 chunks.items _ c.args.i (omega arith) c.self.invariant c.self.view_is c.requires in
    let copied = c.in_ok-copy.ensures ∙ c.as_slice.ensures ∙ c.deref-chunk.ensures in
    subst (λ chunk. c.args.i % 256 < length chunk) (sym copied) (spot.item c.index.result.now c.index.ensures)

pub share_but-requires : goal.share_but-requires
share_but-requires c =
    let chunks = c.self.inside.chunks in
    let spot = among arc_value 256 chunks.items _ c.args.i (omega arith) c.self.invariant c.self.view_is c.requires in
    omega (arith, spot.piece, ap length c.deref.ensures.value)

-- the chunks that are shared, with the changed copy of one
changed : (c : In_ok-chunks) →
    let chunk = arc_value c.index.result.now in
    map arc_value c.in_ok-chunks.chunks.items
    ≡ set (map arc_value c.self.inside.chunks.items) (c.args.i / 256) (set chunk (c.args.i % 256) c.args.t)
changed c =
    let copied = c.in_ok-copy.ensures ∙ c.as_slice.ensures ∙ c.deref-chunk.ensures in
    c.in_ok-chunks.ensures
    ∙ ap (λ chunks. set (map arc_value chunks) (c.args.i / 256) c.set.new.self) c.deref.ensures.value
    ∙ ap (set (map arc_value c.self.inside.chunks.items) (c.args.i / 256))
    (c.set.ensures ∙ ap (λ chunk. set chunk (c.args.i % 256) c.args.t) copied)

pub invariant_of-result : goal.invariant_of-result
invariant_of-result c =
    let chunks = c.self.inside.chunks in
    let spot = among arc_value 256 chunks.items _ c.args.i (omega arith) c.self.invariant c.self.view_is c.requires in
    subst (IsTiled 256 0) (sym (changed c)) (spot.tiled c.index.result.now c.args.t c.index.ensures)

pub returns : goal.returns
returns c =
    let chunks = c.self.inside.chunks in
    let spot = among arc_value 256 chunks.items _ c.args.i (omega arith) c.self.invariant c.self.view_is c.requires in
    ap concat (changed c) ∙ spot.changed c.index.result.now c.args.t c.index.ensures
