use Rattle.std.proofs.Common.{◌≡◌, ◌-◌, []}
use Rattle.docs_format.specs.Reading.{list_at}
use Rattle.journal_bodies.specs.RootReading.{index_at}
use Rattle.journal_bodies.proofs.indexes.indexes_at.Given as goal

abbrev pub invariant-loop : goal.invariant-loop
invariant-loop l =
    list_at index_at l.list.items (l.count - l.counter) l.reader ≡ list_at index_at [] l.count l.initial.reader
