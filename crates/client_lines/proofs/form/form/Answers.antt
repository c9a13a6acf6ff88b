use Rattle.client_lines.proofs.HadLemmas.{get_had}
use Rattle.client_lines.proofs.form.form.Goals as goal

pub returns-in-Some-word_behind-2-clause-found : goal.returns-in-Some-word_behind-2-clause-found
returns-in-Some-word_behind-2-clause-found c =
    get_had c.args.line.now c.in-Some-word_behind-2.uri.now c.utf8.line
    ((tt, c.in-Some-word_behind-2.ensures.0), c.in-Some-word_behind-2.ensures.1)
