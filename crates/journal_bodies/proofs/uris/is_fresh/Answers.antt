use Rattle.std.proofs.Common.{ap, is_some, ◌∙◌}
use Rattle.doc_model.specs.Tree.{is_among}
use Rattle.docs_format.proofs.Seen.{not_so, one_more}
use Rattle.journal_bodies.proofs.uris.is_fresh.Goals as goal

pub returns-clause-fresh : goal.returns-clause-fresh
returns-clause-fresh c =
    λ others had. not_so c.is_none.result (is_some c.in_ok-insert.field-0)
    (is_among others c.args.uri.now) c.is_none.ensures (ap is_some c.in_ok-insert.ensures.old ∙ had c.args.uri.now)

pub returns-clause-noted : goal.returns-clause-noted
returns-clause-noted c =
    λ others had. one_more c.args.met.now c.insert.new.self others c.args.uri.now c.in_ok-insert.ensures.updates had
