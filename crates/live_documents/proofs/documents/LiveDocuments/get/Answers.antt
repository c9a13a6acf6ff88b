use Rattle.std.proofs.Common.{ap, ◌∙◌, sym}
use Rattle.std.specs.FinMap as map
use Rattle.doc_meaning.proofs.MapLemmas.{get_key}
use Rattle.live_documents.proofs.documents.LiveDocuments.get.Goals as goal

pub returns : goal.returns
returns c = c.get.ensures.value ∙ sym (get_key c.self.inside.versions.entries c.args.uri.now)
    ∙ ap (λ m. map.get m c.args.uri.now) c.self.view_is
