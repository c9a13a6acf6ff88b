use Rattle.command_words.proofs.ReadingLemmas.{on_err, refuses_range}
use Rattle.command_words.proofs.reading.Reading.give.Goals as goal

pub returns-in-Range-clause-refused : goal.returns-in-Range-clause-refused
returns-in-Range-clause-refused c = rw c.in-Range.is
    (on_err c.take_range.result c.take_range.ensures.refused (λ why. refuses_range c.args.self.now c.args.value why))
