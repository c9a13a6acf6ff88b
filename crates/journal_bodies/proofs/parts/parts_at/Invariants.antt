use Rattle.std.proofs.Common.{◌≡◌, ◌-◌, []}
use Rattle.std.specs.List.{flat_map}
use Rattle.docs_format.specs.Reading.{list_at}
use Rattle.journal_bodies.specs.Answers.{HasFiles}
use Rattle.journal_bodies.specs.RootReading.{part_at}
use Rattle.journal_bodies.specs.Roots.{files_of}
use Rattle.journal_bodies.proofs.parts.parts_at.Given as goal

abbrev pub invariant-loop : goal.invariant-loop
invariant-loop l = record {
  total : list_at (part_at l.next) l.parts (l.count - l.counter) l.reader
      ≡ list_at (part_at l.next) [] l.count l.initial.reader;
  seen : HasFiles l.seen (flat_map files_of l.parts);
}
