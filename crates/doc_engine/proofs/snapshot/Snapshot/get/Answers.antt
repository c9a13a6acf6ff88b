use Rattle.std.proofs.Common.{subst, ap, ◌∙◌, sym}
use Rattle.std.proofs.lemmas.Result.{err_from_is_err_and}
use Rattle.doc_engine.proofs.Reading.{gets, gets_as, gets_old}
use Rattle.doc_engine.specs.EngineState.{view_of}
use Rattle.doc_engine.specs.Reads.{ReturnsGet}
use Rattle.doc_meaning.specs.History.{merge}
use Rattle.doc_meaning.specs.declared.replies.ReadReply.TheVariants as read
use Rattle.doc_engine.proofs.snapshot.Snapshot.get.Goals as goal

pub returns-in_err-check_front-clause-since : goal.returns-in_err-check_front-clause-since
returns-in_err-check_front-clause-since c low h of_h =
    let p = err_from_is_err_and c.from_residual.result c.from_residual.ensures.1 in
    rw (p.1, p.2, c.in_err-check_front.ensures.1)
    (gets_old (view_of c.args.self.now) low h of_h c.args.uri.now c.in_err-check_front.ensures.0)

pub returns-in_err-check_front-clause-reply : goal.returns-in_err-check_front-clause-reply
returns-in_err-check_front-clause-reply c h of_h =
    subst (λ reply. ReturnsGet reply c.from_residual.result) (gets_as h c.args.uri.now)
    (returns-in_err-check_front-clause-since c (merge h) h of_h)

pub returns-clause-since : goal.returns-clause-since
returns-clause-since c low h of_h =
    gets (view_of c.args.self.now) low h of_h c.args.uri.now c.in_ok-check_front.ensures
    ∙ ap read.Found (sym c.get.ensures)

pub returns-clause-reply : goal.returns-clause-reply
returns-clause-reply c h of_h = sym (gets_as h c.args.uri.now) ∙ returns-clause-since c (merge h) h of_h
