use Rattle.std.proofs.Common.{arith}
use Rattle.journal_bodies.specs.Answers.{root_of}
use Rattle.journal_bodies.proofs.Places.{is_only}
use Rattle.journal_bodies.proofs.RootPlaces.{root_found, roots_are_read}
use Rattle.journal_bodies.proofs.root_reading.read_root.Goals as goal

pub returns-clause-found : goal.returns-clause-found
returns-clause-found c =
    root_found c.args.bytes.now c.placed.result (λ i. omega (arith, c.type_inv.bytes i)) c.placed.ensures

pub returns-clause-only : goal.returns-clause-only
returns-clause-only c =
    λ root s. is_only c.placed.result (root_of c.args.bytes.now) root (roots_are_read c.args.bytes.now root s)
    c.placed.ensures
