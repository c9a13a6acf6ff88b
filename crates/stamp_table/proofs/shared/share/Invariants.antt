use Rattle.std.proofs.Common.{◌≡◌, map, take}
use Rattle.std.specs.Arc.{arc_value}
use Rattle.stamp_table.proofs.shared.share.Given as goal

abbrev pub invariant-loop-piece : goal.invariant-loop-piece
invariant-loop-piece g l = map arc_value l.shared.items ≡ map arc_value (take l.piece-index l.pieces)
