use Rattle.std.proofs.Common.{arith}
use Rattle.journal_bodies.specs.Answers.{entry_of}
use Rattle.journal_bodies.proofs.EntryPlaces.{entries_are_read, entry_found}
use Rattle.journal_bodies.proofs.Places.{is_only}
use Rattle.journal_bodies.proofs.entry_reading.read_entry.Goals as goal

pub returns-clause-found : goal.returns-clause-found
returns-clause-found c =
    entry_found c.args.expected c.args.bytes.now c.placed.result (λ i. omega (arith, c.type_inv.bytes i)) c.placed.ensures

pub returns-clause-only : goal.returns-clause-only
returns-clause-only c =
    λ number e s is. is_only c.placed.result (entry_of c.args.expected c.args.bytes.now) (number, e)
    (entries_are_read c.args.expected c.args.bytes.now number e s is) c.placed.ensures
