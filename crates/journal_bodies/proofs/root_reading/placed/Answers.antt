use Rattle.std.proofs.Common.{arith}
use Rattle.journal_bodies.proofs.RootPlaces.{root_within}
use Rattle.journal_bodies.proofs.root_reading.placed.Goals as goal

pub body_bad-requires : goal.body_bad-requires
body_bad-requires c =
    root_within c.args.bytes.now c.in-Err.stop (λ i. omega (arith, c.type_inv.bytes i)) c.in-Err.ensures
