use Rattle.std.proofs.Common.{ap, ◌∙◌, sym, append-nil}
use Rattle.doc_meaning.specs.Answers.{matching, answer_in}
use Rattle.doc_meaning.proofs.MapLemmas.{entries-ordered}
use Rattle.plain_history.proofs.database.Database.answer.Goals as goal

pub returns : goal.returns
returns c =
    let told = rw c.in-None.ensures.steps.0 at c.loop-uri.invariant in
    let listed = c.into_iter-uri-iterator.ensures.into_iter_gives ∙ c.iter-uri-items.ensures.rest in
    let ordered = entries-ordered c.self.inside.live.entries c.iter-uri-items.ensures.ordered in
    sym (append-nil _) ∙ told ∙ ap (λ es. matching es c.args.query.now) (listed ∙ sym ordered)
    ∙ ap (λ d. answer_in d c.args.query.now) c.self.view_is
