use Rattle.std.proofs.Common.{◌≡◌, ◌-◌, []}
use Rattle.docs_format.specs.Reading.{list_at}
use Rattle.journal_bodies.specs.Answers.{HasOps}
use Rattle.journal_bodies.specs.EntryReading.{op_at}
use Rattle.journal_bodies.proofs.ops.ops_at.Given as goal

abbrev pub invariant-loop : goal.invariant-loop
invariant-loop l = record {
  total : list_at op_at l.list.items (l.count - l.counter) l.reader ≡ list_at op_at [] l.count l.initial.reader;
  met : HasOps l.met l.room l.list.items;
}
