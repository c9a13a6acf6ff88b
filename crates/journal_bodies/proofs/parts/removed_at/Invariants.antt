use Rattle.std.proofs.Common.{◌≡◌, ◌-◌, ◌++◌, [], List, ℕ}
use Rattle.docs_format.specs.Reading.{list_at}
use Rattle.journal_bodies.specs.Answers.{HasFiles}
use Rattle.journal_bodies.specs.RootReading.{file_at}
use Rattle.journal_bodies.proofs.parts.removed_at.Given as goal

abbrev pub invariant-loop : goal.invariant-loop
invariant-loop l = record {
  total : (others : List ℕ) → HasFiles l.initial.seen others
      → list_at (λ before. file_at l.next (others ++ before)) l.removed (l.count - l.counter) l.reader
      ≡ list_at (λ before. file_at l.next (others ++ before)) [] l.count l.initial.reader;
  seen : (others : List ℕ) → HasFiles l.initial.seen others → HasFiles l.seen (others ++ l.removed);
}
