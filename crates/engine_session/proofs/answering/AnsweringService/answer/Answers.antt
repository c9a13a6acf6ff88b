use Rattle.std.proofs.Common.{refl}
use Rattle.engine_session.proofs.answering.AnsweringService.answer.Goals as goal

pub returns-clause-answers : goal.returns-clause-answers
returns-clause-answers g c = record { shown = _; shows = refl; left = _; called = c.answer.ensures; leaves = refl }
