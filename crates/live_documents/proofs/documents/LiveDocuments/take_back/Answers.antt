use Rattle.std.proofs.Common.{ap, sym, ◌∙◌}
use Rattle.live_documents.specs.Staging.{before_puts}
use Rattle.live_documents.proofs.StagingLemmas.{before_puts-push}
use Rattle.live_documents.proofs.documents.LiveDocuments.take_back.Goals as goal

pub loop-last-preserved : goal.loop-last-preserved
loop-last-preserved c =
    ap (before_puts c.pop.new.self.items) c.put_back.ensures
    ∙ sym (before_puts-push c.pop.new.self.items c.in-Some.last c.loop-last.self)
    ∙ ap (λ rs. before_puts rs c.loop-last.self) (sym c.in-Some.ensures.items) ∙ c.loop-last.invariant
