use Rattle.std.proofs.Common.{ap, ◌∙◌}
use Rattle.std.specs.FinMap as map
use Rattle.doc_meaning.proofs.MapLemmas.{one_removed}
use Rattle.plain_history.proofs.database.Database.remove.Goals as goal

pub returns : goal.returns
returns c = one_removed c.self.inside.live.entries c.remove.new.self.entries c.args.uri.now c.remove.ensures.updates.0
    ∙ ap (λ m. map.remove m c.args.uri.now) c.self.view_is
