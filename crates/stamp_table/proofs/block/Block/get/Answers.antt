use Rattle.std.proofs.Common.{◌<◌, ◌%◌, length, get_or, ap, sym, subst, ◌∙◌, arith}
use Rattle.std.specs.Arc.{arc_value}
use Rattle.stamp_table.proofs.Tiling.{among}
use Rattle.stamp_table.proofs.block.Block.get.Goals as goal

pub index-requires : goal.index-requires
index-requires c =
    let chunks = c.self.inside.chunks in
    let spot = among arc_value 256 chunks.items _ c.args.i (omega arith) c.self.invariant c.self.view_is c.requires in
    omega (arith, spot.piece, chunks.ok.0)

pub bounds-as_slice-i : goal.bounds-as_slice-i
bounds-as_slice-i c =
    let chunks = c.self.inside.chunks in
    let spot = among arc_value 256 chunks.items _ c.args.i (omega arith) c.self.invariant c.self.view_is c.requires in
    subst (λ chunk. c.args.i % 256 < length chunk) (sym (c.as_slice.ensures ∙ c.deref-chunk.ensures))
    (spot.item c.index.result.now c.index.ensures)

pub returns : goal.returns
returns c =
    let chunks = c.self.inside.chunks in
    let spot = among arc_value 256 chunks.items _ c.args.i (omega arith) c.self.invariant c.self.view_is c.requires in
    ap (λ chunk. get_or chunk (c.args.i % 256) 0) (c.as_slice.ensures ∙ c.deref-chunk.ensures)
    ∙ spot.read c.index.result.now c.index.ensures
