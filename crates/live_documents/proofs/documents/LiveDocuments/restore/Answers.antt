use Rattle.std.proofs.Common.{IsSome, ap, sym, subst, ◌∙◌, rules}
use Rattle.std.specs.FinMap as map
use Rattle.doc_meaning.proofs.MapLemmas.{at_key, get_key, one_put}
use Rattle.live_documents.specs.Staging.{restored}
use Rattle.live_documents.proofs.StagingLemmas.{restored_there, restored_nowhere}
use Rattle.live_documents.proofs.documents.LiveDocuments.restore.Goals as goal

pub returns-in-Some : goal.returns-in-Some
returns-in-Some c =
    let es = c.self.inside.versions.entries in
    let uri = c.args.uri.now in
    let there : IsSome (at_key es uri) = subst IsSome c.in-Some.ensures.value (search rules) in
    let updates = (c.get_mut.follows.holds c.swap.new.x).3 there in
    restored_there (map.from_entries es) _ uri c.args.version c.in-Some.live.now
    (c.in-Some.ensures.value ∙ sym (get_key es uri))
    (one_put es (c.get_mut.follows.lender c.swap.new.x).entries uri c.swap.new.x updates.0
    ∙ ap (map.insert (map.from_entries es) uri) c.swap.ensures.x_after)
    ∙ ap (restored uri c.args.version) c.self.view_is

pub returns : goal.returns
returns c =
    let es = c.self.inside.versions.entries in
    let uri = c.args.uri.now in
    ap (λ m. map.from_entries m.entries) c.get_mut.follows.holds-at-none
    ∙ restored_nowhere (map.from_entries es) uri c.args.version (c.in_default.ensures.value ∙ sym (get_key es uri))
    ∙ ap (restored uri c.args.version) c.self.view_is
