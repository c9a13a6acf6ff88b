use Rattle.std.proofs.Common.{ap, ◌∙◌}
use Rattle.live_documents.specs.Staging.{before_puts}
use Rattle.live_documents.proofs.StagingLemmas.{before_puts-push}
use Rattle.live_documents.proofs.documents.LiveDocuments.stage_put.Goals as goal

pub returns-clause-before : goal.returns-clause-before
returns-clause-before c =
    ap (λ rs. before_puts rs c.put.new.self) c.in_default.ensures.items
    ∙ before_puts-push c.args.replaced.now.items c.in_ok-last.last c.put.new.self
    ∙ ap (before_puts c.args.replaced.now.items) c.in_ok-last.ensures.before
