use Rattle.std.proofs.Common.{subst, sym, ◌∙◌}
use Rattle.std.proofs.lemmas.Result.{err_from_is_err_and}
use Rattle.doc_engine.proofs.Reading.{refuses_search, searched, searched_old, searches_as}
use Rattle.doc_engine.specs.EngineState.{view_of}
use Rattle.doc_engine.specs.Reads.{ReturnsSearch}
use Rattle.doc_meaning.specs.History.{merge}
use Rattle.doc_engine.proofs.snapshot.Snapshot.search.Goals as goal

pub returns-in_err-check_query-clause-since : goal.returns-in_err-check_query-clause-since
returns-in_err-check_query-clause-since c low h of_h =
    let p = err_from_is_err_and c.from_residual.result c.from_residual.ensures.1 in
    rw (p.1, p.2) (refuses_search (view_of c.args.self.now) low h c.args.query.now c.in_err-check_query.field-0.0
    of_h c.in_err-check_query.ensures.refused)

pub returns-in_err-check_query-clause-reply : goal.returns-in_err-check_query-clause-reply
returns-in_err-check_query-clause-reply c h of_h =
    subst (λ reply. ReturnsSearch reply c.from_residual.result) (searches_as h c.args.query.now)
    (returns-in_err-check_query-clause-since c (merge h) h of_h)

pub returns-in_err-check_front-clause-since : goal.returns-in_err-check_front-clause-since
returns-in_err-check_front-clause-since c low h of_h =
    let residual = c.from_residual-in_err-check_front in
    let p = err_from_is_err_and residual.result residual.ensures.1 in
    rw (p.1, p.2, c.in_err-check_front.ensures.1) (searched_old (view_of c.args.self.now) low h of_h c.args.query.now
    c.in_ok-check_query.ensures.ok c.in_err-check_front.ensures.0)

pub returns-in_err-check_front-clause-reply : goal.returns-in_err-check_front-clause-reply
returns-in_err-check_front-clause-reply c h of_h =
    subst (λ reply. ReturnsSearch reply c.from_residual-in_err-check_front.result) (searches_as h c.args.query.now)
    (returns-in_err-check_front-clause-since c (merge h) h of_h)

pub returns-clause-since : goal.returns-clause-since
returns-clause-since c low h of_h =
    searched (view_of c.args.self.now) low h of_h c.args.query.now _ c.in_ok-check_query.ensures.ok
    c.in_ok-check_front.ensures c.in_ok-answer.ensures

pub returns-clause-reply : goal.returns-clause-reply
returns-clause-reply c h of_h =
    sym (searches_as h c.args.query.now) ∙ returns-clause-since c (merge h) h of_h
