use Rattle.std.proofs.Common.{length, ap, ◌∙◌, sym}
use Rattle.std.specs.FinMap.{len, len-entries}
use Rattle.doc_meaning.proofs.MapLemmas.{entries-ordered}
use Rattle.live_documents.proofs.documents.LiveDocuments.len.Goals as goal

pub returns : goal.returns
returns c =
    c.len.ensures.len ∙ ap length (sym (entries-ordered c.self.inside.versions.entries c.len.ensures.ordered))
    ∙ sym (len-entries _) ∙ ap len c.self.view_is
