use Rattle.std.proofs.Common.{ap, sym, ◌∙◌}
use Rattle.std.specs.FinMap as map
use Rattle.doc_meaning.specs.declared.version.Version.{Version}
use Rattle.doc_meaning.proofs.MapLemmas.{get_key, one_put}
use Rattle.live_documents.specs.Staging.{live_again}
use Rattle.live_documents.proofs.StagingLemmas.{put_undone}
use Rattle.live_documents.proofs.documents.LiveDocuments.put.Goals as goal

pub returns-clause-after : goal.returns-clause-after
returns-clause-after c =
    let version : Version = record { document = c.args.document; created = c.args.at } in
    let old = c.self.inside.versions.entries in
    let key = c.in_ok-key.key in
    one_put old c.insert.new.self.entries key version c.in_ok-old.ensures.updates.0
    ∙ ap (λ db. map.insert db key version) c.self.view_is
    ∙ ap (λ k. map.insert c.args.self.now k version) (c.in_ok-key.ensures ∙ c.in_ok-uri.ensures ∙ c.uri.ensures)

pub returns-clause-before : goal.returns-clause-before
returns-clause-before c =
    let version : Version = record { document = c.args.document; created = c.args.at } in
    let old = c.self.inside.versions.entries in
    let key = c.in_ok-key.key in
    let uri = c.in_ok-uri.uri in
    ap (live_again uri c.in_ok-old.old) (one_put old c.insert.new.self.entries key version c.in_ok-old.ensures.updates.0
    ∙ ap (λ k. map.insert (map.from_entries old) k version) c.in_ok-key.ensures)
    ∙ put_undone (map.from_entries old) uri version c.in_ok-old.old
    (c.in_ok-old.ensures.old ∙ sym (get_key old key) ∙ ap (map.get (map.from_entries old)) c.in_ok-key.ensures)
    ∙ c.self.view_is
