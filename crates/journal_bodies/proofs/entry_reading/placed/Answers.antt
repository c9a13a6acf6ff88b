use Rattle.std.proofs.Common.{arith}
use Rattle.journal_bodies.proofs.EntryPlaces.{entry_within}
use Rattle.journal_bodies.proofs.entry_reading.placed.Goals as goal

pub body_bad-requires : goal.body_bad-requires
body_bad-requires c =
    entry_within c.args.expected c.args.bytes.now c.in-Err.stop (λ i. omega (arith, c.type_inv.bytes i)) c.in-Err.ensures
