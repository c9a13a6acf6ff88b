use Rattle.std.proofs.Common.{map, set, ap, ◌∙◌}
use Rattle.std.specs.Arc.{arc_value}
use Rattle.std.proofs.lemmas.List.{map-set}
use Rattle.stamp_table.proofs.shared.share_but.Goals as goal

pub returns : goal.returns
returns g c =
    map-set arc_value c.in_ok-shared.shared.items c.args.at c.in_ok-piece.piece
    ∙ ap (λ pieces. set pieces c.args.at (arc_value c.in_ok-piece.piece)) c.in_ok-shared.ensures
    ∙ ap (λ piece. set (map arc_value c.args.pieces.now) c.args.at piece) c.in_ok-piece.ensures.ok
