use Rattle.std.proofs.Common.{ap, ◌∙◌}
use Rattle.std.specs.FinMap as map
use Rattle.doc_meaning.proofs.MapLemmas.{one_put}
use Rattle.plain_history.proofs.database.Database.put.Goals as goal

pub returns-clause-ok : goal.returns-clause-ok
returns-clause-ok c =
    let uri = c.in_ok-uri.ensures ∙ c.uri.ensures in
    one_put c.self.inside.live.entries c.insert.new.self.entries c.in_ok-uri.uri
    (record { document = c.args.document; created = c.args.created }) c.in_ok-insert.ensures.updates.0
    ∙ ap (λ m. map.insert m c.in_ok-uri.uri (record { document = c.args.document; created = c.args.created }))
    c.self.view_is
    ∙ ap (λ k. map.insert c.args.self.now k (record { document = c.args.document; created = c.args.created })) uri
